-- What a text begins with is determined by the text.
use Rattle.std.proofs.Common.{◌≡◌, ℕ, zero, suc, ◌≤◌, Bool, true, false, not, ◌&&◌, ◌==◌, cond, IsTrue, List, [], ◌∷◌, ◌++◌, length, Some, None, refl, ap, ap₂, ◌∙◌, sym, subst, arith, length-append}
use Rattle.std.proofs.lemmas.Bool.{and_parts}
use Rattle.std.specs.List.{list_all}
use Rattle.type_tree.specs.declared.tree.Ty.{Ty}
use Rattle.type_tree.specs.declared.tree.Ty.TheVariants as ty
use Rattle.type_tree.specs.World.{Facts}
use Rattle.type_tree.specs.Lookup.{first_named}
use Rattle.type_tree.specs.Measure.{depth}
use Rattle.type_tree.specs.ReadTexts.{is_mark, is_plain}
use Rattle.type_tree.specs.Reading.{is_past_name, begins_with, list_at, array_at, arrays, in_arrays, BeginsList, BeginsArguments, BeginsTree, Begins, last, next, none, some}

-- a mark stands in no name
clash : (y : ℕ) (s r : List ℕ) → IsTrue (is_past_name r) → r ≡ y ∷ s → IsTrue (is_plain y) → ⊥
clash y s r past e plain =
    let mark : is_mark y ≡ true = sym (ap is_past_name e) ∙ past in
    let off : not true ≡ true = sym (ap not mark) ∙ plain in
    cc

pub split_unique : (a b r q : List ℕ) → IsTrue (list_all is_plain a) → IsTrue (is_past_name r) → IsTrue (list_all is_plain b) → IsTrue (is_past_name q) → a ++ r ≡ b ++ q → (a ≡ b) × (r ≡ q)
split_unique [] [] r q pa er pb eq e = (refl, e)
split_unique [] (y ∷ b) r q pa er pb eq e = absurd (clash y (b ++ q) r er e (and_parts (is_plain y) (list_all is_plain b) pb).0)
split_unique (x ∷ a) [] r q pa er pb eq e = absurd (clash x (a ++ r) q eq (sym e) (and_parts (is_plain x) (list_all is_plain a) pa).0)
split_unique (x ∷ a) (y ∷ b) r q pa er pb eq e =
    let heads : x ≡ y = cc in
    let tails : a ++ r ≡ b ++ q = cc in
    let rest = split_unique a b r q (and_parts (is_plain x) (list_all is_plain a) pa).1 er (and_parts (is_plain y) (list_all is_plain b) pb).1 eq tails in
    (ap₂ ◌∷◌ heads rest.0, rest.1)

pub arrays_unique : (j k : ℕ) (r q : List ℕ) → array_at r ≡ None → array_at q ≡ None → arrays j ++ r ≡ arrays k ++ q → (j ≡ k) × (r ≡ q)
arrays_unique zero zero r q er eq e = (refl, e)
arrays_unique zero (suc k) r q er eq e = let none_some : None ≡ Some (arrays k ++ q) = sym er ∙ ap array_at e in absurd (cc)
arrays_unique (suc j) zero r q er eq e = let none_some : None ≡ Some (arrays j ++ r) = sym eq ∙ ap array_at (sym e) in absurd (cc)
arrays_unique (suc j) (suc k) r q er eq e =
    let tails : arrays j ++ r ≡ arrays k ++ q = cc in
    let rest = arrays_unique j k r q er eq tails in
    (ap suc rest.0, rest.1)

pub comma_or_bracket : (r q : List ℕ) → ◌≡◌ {A = List ℕ} (93 ∷ r) (44 ∷ q) → ⊥
comma_or_bracket r q e = let same : ◌≡◌ {A = ℕ} 93 44 = cc in omega (arith, same)

-- the text determines what One tells of it
abbrev pub IsDetermined : (List ℕ → Ty → List ℕ → Type 0) → Type 0
IsDetermined One = (s : List ℕ) (t u : Ty) (r q : List ℕ) → One s t r → One s u q → (t ≡ u) × (r ≡ q)

module _ (One : List ℕ → Ty → List ℕ → Type 0) (one : IsDetermined One) where
  pub list_one : {s : List ℕ} {ts us : List Ty} {r q : List ℕ} → BeginsList One s ts r → BeginsList One s us q → (ts ≡ us) × (r ≡ q)
  list_one (last s t r h) (last _ u q k) =
      let e = one _ _ _ _ _ h k in
      let e1 : 93 ∷ r ≡ 93 ∷ q = e.1 in
      (ap (λ x. x ∷ []) e.0, cc)
  list_one (last s t r h) (next _ u others us q k ks) = absurd (comma_or_bracket r others (one _ _ _ _ _ h k).1)
  list_one (next s t others ts r h hs) (last _ u q k) = absurd (comma_or_bracket q others (sym (one _ _ _ _ _ h k).1))
  list_one (next s t others ts r h hs) (next _ u others2 us q k ks) =
      let e = one _ _ _ _ _ h k in
      let e1 : 44 ∷ others ≡ 44 ∷ others2 = e.1 in
      let same : others2 ≡ others = cc in
      let rest = list_one hs (subst (λ o. BeginsList One o us q) same ks) in
      (ap₂ ◌∷◌ e.0 rest.0, rest.1)

  pub arguments_one : {s : List ℕ} {ts us : List Ty} {r q : List ℕ} → BeginsArguments One s ts r → BeginsArguments One s us q → (ts ≡ us) × (r ≡ q)
  arguments_one (none s e) (none _ f) = (refl, refl)
  arguments_one (none s e) (some _ inner us q f k) = absurd (cc)
  arguments_one (some s inner ts r e h) (none _ f) = absurd (cc)
  arguments_one (some s inner ts r e h) (some _ inner2 us q f k) =
      let found : Some inner2 ≡ Some inner = sym f ∙ e in
      let same : inner2 ≡ inner = cc in
      list_one h (subst (λ o. BeginsList One o us q) same k)

  pub tree_one : (w : Facts) {s : List ℕ} {t u : Ty} {r q : List ℕ} → BeginsTree w One s t r → BeginsTree w One s u q → (t ≡ u) × (r ≡ q)
  tree_one w {r = r} {q = q} a b =
      let names = split_unique a.name b.name a.past_name b.past_name a.split.plain a.split.past b.split.plain b.split.past (sym a.split.whole ∙ b.split.whole) in
      let found : Some a.def ≡ Some b.def = sym a.definition.named ∙ ap (first_named w) names.0 ∙ b.definition.named in
      let defs : a.def ≡ b.def = cc in
      let args = arguments_one a.arguments (subst (λ p. BeginsArguments One p b.args b.past_args) (sym names.1) b.arguments) in
      let suffixes = arrays_unique a.count b.count r q a.suffix.no_more b.suffix.no_more (sym a.suffix.whole ∙ args.1 ∙ b.suffix.whole) in
      (a.tree ∙ ap₂ in_arrays suffixes.0 (ap₂ ty.Inst defs args.0) ∙ sym b.tree, suffixes.1)

pub begins_one : (w : Facts) (n : ℕ) → IsDetermined (Begins w n)
unfolding Begins
begins_one w zero s t u r q a b = absurd a
begins_one w (suc n) s t u r q a b = tree_one (Begins w n) (begins_one w n) w a.0 b.0

pub shallow : (w : Facts) (n : ℕ) (s : List ℕ) (t : Ty) (r : List ℕ) → Begins w n s t r → depth t ≤ n
unfolding Begins
shallow w zero s t r h = absurd h
shallow w (suc n) s t r h = h.1

-- what stands behind is not longer

length-arrays : (k : ℕ) (r : List ℕ) → length r ≤ length (arrays k ++ r)
length-arrays zero r = omega arith
length-arrays (suc k) r = omega (arith, length-arrays k r)

list_at-shorter : (s inner : List ℕ) → list_at s ≡ Some inner → length inner ≤ length s
list_at-shorter [] inner e = absurd (cc)
list_at-shorter (b ∷ rest) inner e = go (b == 91 && not (begins_with 93 rest)) e
  where
    go : (opens : Bool) → cond opens (Some rest) None ≡ Some inner → length inner ≤ suc (length rest)
    go true f = let same : rest ≡ inner = cc in omega (arith, ap length same)
    go false f = absurd (cc)

module _ (One : List ℕ → Ty → List ℕ → Type 0) (shorter : (s : List ℕ) (t : Ty) (r : List ℕ) → One s t r → length r ≤ length s) where
  list_shorter : {s : List ℕ} {ts : List Ty} {r : List ℕ} → BeginsList One s ts r → length r ≤ length s
  list_shorter (last s t r h) = omega (arith, shorter _ _ _ h)
  list_shorter (next s t others ts r h hs) = omega (arith, shorter _ _ _ h, list_shorter hs)

  arguments_shorter : {s : List ℕ} {ts : List Ty} {r : List ℕ} → BeginsArguments One s ts r → length r ≤ length s
  arguments_shorter (none s e) = omega arith
  arguments_shorter (some s inner ts r e h) = omega (arith, list_at-shorter s inner e, list_shorter h)

  tree_shorter : (w : Facts) {s : List ℕ} {t : Ty} {r : List ℕ} → BeginsTree w One s t r → length r ≤ length s
  tree_shorter w {s = s} {r = r} h =
      omega (arith, ap length h.split.whole, length-append h.name h.past_name, arguments_shorter h.arguments, ap length h.suffix.whole, length-arrays h.count r)

pub begins_shorter : (w : Facts) (n : ℕ) (s : List ℕ) (t : Ty) (r : List ℕ) → Begins w n s t r → length r ≤ length s
unfolding Begins
begins_shorter w zero s t r h = absurd h
begins_shorter w (suc n) s t r h = tree_shorter (Begins w n) (begins_shorter w n) w h.0
