-- A reader reads a spelling: what it accepts is spelled so, and what is spelled so it accepts.
use Rattle.std.proofs.Common.{◌≡◌, ℕ, Bool, true, false, cond, List, ◌∷◌, ◌++◌, Ok, Err, refl, sym, ap, ◌∙◌, append_assoc}
use Rattle.cli_sigs.specs.Reading.{Answer, Part, ◌>>=◌}

-- the bytes begin with a spelling of x, and rest comes after it
pub record Begins {X : Type 0} (Spells : List ℕ → X → Type 0) (bytes : List ℕ) (x : X) (rest : List ℕ) : Type 0 where
  pub text : List ℕ
  pub spelled : Spells text x
  pub front : bytes ≡ text ++ rest

pub record Reads {X : Type 0} (one : List ℕ → Part X) (Spells : List ℕ → X → Type 0) : Type 0 where
  pub found : (bytes : List ℕ) (x : X) (rest : List ℕ) → one bytes ≡ Ok (x, rest) → Begins Spells bytes x rest
  pub again : (text : List ℕ) (x : X) (rest : List ℕ) → Spells text x → one (text ++ rest) ≡ Ok (x, rest)

-- the value of a step that did not fail
pub bind_ok : {A B : Type 0} (r : Answer A) (f : A → Answer B) (y : B) → (r >>= f) ≡ Ok y → (x : A) × (r ≡ Ok x) × (f x ≡ Ok y)
bind_ok (Ok x) f y e = (x, refl, e)
bind_ok (Err left) f y e = absurd cc

-- a test that did not fail
pub test_ok : {A : Type 0} (b : Bool) (left : ℕ) (x y : A) → cond b (Ok x) (Err left) ≡ Ok y → (b ≡ true) × (x ≡ y)
test_ok true left x y e = (refl, cc)
test_ok false left x y e = absurd cc

abbrev pub done : {A : Type 0} → A → Answer A
done x = Ok x

pub ok_is : {A : Type 0} (x y : A) → done x ≡ done y → x ≡ y
ok_is x y e = cc

-- one text behind another
pub joined : (bytes a after b rest : List ℕ) → bytes ≡ a ++ after → after ≡ b ++ rest → bytes ≡ (a ++ b) ++ rest
joined bytes a after b rest p q = p ∙ ap (λ (r : List ℕ). a ++ r) q ∙ sym (append_assoc a b rest)

pub headed : (code first : ℕ) (more tail : List ℕ) → code ≡ first → more ≡ tail → code ∷ more ≡ first ∷ tail
headed code first more tail p q = cc
