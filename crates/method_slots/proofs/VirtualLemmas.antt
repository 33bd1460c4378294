-- The virtual instance methods of a run, one by one.
use Rattle.std.proofs.Common.{◌≡◌, ℕ, Result, Ok, Err, IfOk, OnOk, take, drop, zero, suc, ◌+◌, List, [], ◌∷◌, ◌++◌, Option, None, Some, slice_get, refl, ap, ◌∙◌, sym, add-one, append-nil, append_assoc, arith}
use Rattle.type_tree.specs.declared.definition.Method.{Method}
use Rattle.type_tree.specs.declared.tree.Ty.{Ty}
use Rattle.type_tree.specs.World.{Facts}
use Rattle.type_pool.specs.Trees.{Grows}
use Rattle.type_pool.proofs.Gets.{get_grows}
use Rattle.type_pool.proofs.JobLemmas.{grown_length, at-grown, at_all-grown, below-grown}
use Rattle.method_slots.specs.declared.numbers.Virtual.{Virtual}
use Rattle.method_slots.specs.declared.opens.OpenMethod.{OpenMethod}
use Rattle.method_slots.specs.Keyed.{IsNamed, AreNamed, IsOwn, AreOwn}
use Rattle.method_slots.specs.Opens.{Open, open_at, SpellsOpen}
use Rattle.method_slots.specs.OpenSets.{OpensGrow}
use Rattle.method_slots.specs.Slots.{run}

get-drop : {A : Type 0} → (f i : ℕ) (xs : List A) → slice_get (drop f xs) i ≡ slice_get xs (f + i)
get-drop zero i xs = let e : i ≡ 0 + i = omega arith in ap (slice_get xs) e
get-drop (suc f) i [] = refl
get-drop (suc f) i (x ∷ xs) = let e : suc (f + i) ≡ suc f + i = omega arith in get-drop f i xs ∙ ap (slice_get (x ∷ xs)) e

take-more : {A : Type 0} → (xs : List A) (i : ℕ) (x : A) → slice_get xs i ≡ Some x → take (suc i) xs ≡ take i xs ++ x ∷ []
take-more [] i x h = absurd (cc)
take-more (y ∷ ys) zero x h = let e : y ≡ x = cc in ap (λ z. z ∷ []) e
take-more (y ∷ ys) (suc i) x h = ap (λ l. y ∷ l) (take-more ys i x h)

-- a run of one more
pub one_more : (w : Facts) (first i : ℕ) (m : Method) → slice_get w.methods (first + i) ≡ Some m → run w first (i + 1) ≡ run w first i ++ m ∷ []
one_more w first i m here = rw add-one (take-more (drop first w.methods) i m (get-drop first i w.methods ∙ here))

pub opens_refl : (os : List OpenMethod) → OpensGrow os os
opens_refl os = ([], sym (append-nil os))

module _ (ts us : List Ty) (os ps : List OpenMethod) (g : Grows ts us) (h : OpensGrow os ps) where
  spells-grown : (o : OpenMethod) (s : Open) → SpellsOpen ts o s → SpellsOpen us o s
  spells-grown o s a =
      let longer = grown_length ts us g in
      let ret = at-grown ts us g o.ret a.within.ret in
      let params = at_all-grown ts us g o.params a.within.params in
      let same : open_at us o ≡ open_at ts o = λ i. record { name = o.name; has_this = o.has_this; vararg = o.vararg; formals = o.formals; ret = ret i; params = params i } in
      record {
        within = record { ret = let r = a.within.ret in omega (arith, r, longer); params = below-grown ts us g o.params a.within.params };
        are = same ∙ a.are;
      }

  pub named-grown : (k : ℕ) (s : Open) → IsNamed ts os k s → IsNamed us ps k s
  named-grown k s a = record { node = a.node; here = ap (λ l. slice_get l k) h.1 ∙ get_grows os h.0 k a.node a.here; spells = spells-grown a.node s a.spells }

  pub all_named-grown : (ks : List ℕ) (slots : List Open) → AreNamed ts os ks slots → AreNamed us ps ks slots
  all_named-grown [] [] a = a
  all_named-grown [] (s ∷ slots) a = a
  all_named-grown (k ∷ ks) [] a = a
  all_named-grown (k ∷ ks) (s ∷ slots) a = (named-grown k s a.0, all_named-grown ks slots a.1)

  pub own-grown : (vs : List (Option Virtual)) (ms : List Method) → AreOwn ts os vs ms → AreOwn us ps vs ms
  own-grown [] [] a = a
  own-grown [] (m ∷ ms) a = a
  own-grown (v ∷ vs) [] a = a
  own-grown (None ∷ vs) (m ∷ ms) a = (a.0, own-grown vs ms a.1)
  own-grown (Some v ∷ vs) (m ∷ ms) a = (record { takes = a.0.takes; named = named-grown v.key _ a.0.named; newslot = a.0.newslot }, own-grown vs ms a.1)

pub own-one : (ts : List Ty) (os : List OpenMethod) (vs : List (Option Virtual)) (ms : List Method) (v : Option Virtual) (m : Method) → AreOwn ts os vs ms → IsOwn ts os v m
    → AreOwn ts os (vs ++ v ∷ []) (ms ++ m ∷ [])
own-one ts os [] [] v m a b = (b, tt)
own-one ts os [] (n ∷ ms) v m a b = absurd a
own-one ts os (u ∷ vs) [] v m a b = absurd a
own-one ts os (u ∷ vs) (n ∷ ms) v m a b = (a.0, own-one ts os vs ms v m a.1 b)

pub opens_trans : (os ps qs : List OpenMethod) → OpensGrow os ps → OpensGrow ps qs → OpensGrow os qs
opens_trans os ps qs g h = (g.0 ++ h.0, h.1 ∙ ap (λ l. l ++ h.0) g.1 ∙ append_assoc os g.0 h.0)

-- two facts on Ok together
pub both_ok : {T E : Type 0} {P : T → Type 0} {Q : Type 0} {R : T → Type 0} (r : Result T E) → IfOk r P → OnOk r Q → ((x : T) → P x → Q → R x) → IfOk r R
both_ok (Ok x) p q f = f x p q
both_ok (Err e) p q f = tt
