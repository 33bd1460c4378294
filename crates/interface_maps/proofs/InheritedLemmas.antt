-- What a parent answers, by the first places of interfaces.
use Rattle.std.proofs.Common.{◌≡◌, ℕ, suc, ◌<◌, nat_eq, Bool, true, false, cond, List, [], ◌∷◌, ◌++◌, map, length, Option, None, Some, slice_get, refl, ap, ◌∙◌, arith}
use Rattle.std.proofs.lemmas.Bool.{and_parts, ltb-true}
use Rattle.std.specs.HashMap.{get}
use Rattle.std.specs.Option.{option_and_then, option_map, option_or}
use Rattle.type_tree.specs.declared.tree.Ty.{Ty}
use Rattle.type_pool.specs.declared.nodes.Id.{Id}
use Rattle.type_pool.specs.Jobs.{SpellAll}
use Rattle.type_pool.specs.Trees.{at, at_all, EachOnce}
use Rattle.method_slots.specs.Chains.{flat}
use Rattle.method_slots.specs.Slots.{same_tree}
use Rattle.interface_lists.proofs.Ids.{tree_test}
use Rattle.interface_maps.specs.declared.answers.Interface.{Interface}
use Rattle.interface_maps.specs.Choices.{Answered, first_of}
use Rattle.interface_maps.specs.Inherited.{FindsInherited, first_place, choice_at}
use Rattle.interface_maps.specs.Publics.{Numbers}

place-step : (b : Bool) (o : Option ℕ) (c : Bool) (n : ℕ) → cond b (Some 0) (option_map (λ i. suc i) (option_or o (cond c (Some n) None)))
    ≡ option_or (cond b (Some 0) (option_map (λ i. suc i) o)) (cond c (Some (suc n)) None)
place-step true o c n = refl
place-step false (Some i) c n = refl
place-step false None true n = refl
place-step false None false n = refl

-- one more number
pub place-append : (k : ℕ) (ts : List Id) (t : Id) → first_place k (ts ++ t ∷ []) ≡ option_or (first_place k ts) (cond (nat_eq t.0 k) (Some (length ts)) None)
place-append k [] t = one (nat_eq t.0 k)
  where
    one : (b : Bool) → cond b (Some 0) (option_map (λ (i : ℕ). suc i) None) ≡ cond b (Some 0) None
    one true = refl
    one false = refl
place-append k (u ∷ ts) t = ap (λ o. cond (nat_eq u.0 k) (Some 0) (option_map (λ i. suc i) o)) (place-append k ts t) ∙ place-step (nat_eq u.0 k) (first_place k ts) (nat_eq t.0 k) (length ts)

abbrev theirs : List Interface → List (List (Option ℕ))
theirs found = map (λ (f : Interface). f.choices) found

abbrev of-answer : ℕ → Option Answered → Option ℕ
of-answer j o = option_and_then (λ (a : Answered). flat (slice_get a.choices j)) o

shift : (f : Interface) (fs : List Interface) (j : ℕ) (o : Option ℕ) → choice_at (f ∷ fs) j (option_map (λ i. suc i) o) ≡ choice_at fs j o
shift f fs j None = refl
shift f fs j (Some p) = refl

first-step : (f : Interface) (fs : List Interface) (a : Answered) (rest : Option Answered) (j : ℕ) (b : Bool) (o : Option ℕ) → f.choices ≡ a.choices → choice_at fs j o ≡ of-answer j rest
    → choice_at (f ∷ fs) j (cond b (Some 0) (option_map (λ i. suc i) o)) ≡ of-answer j (cond b (Some a) rest)
first-step f fs a rest j true o e h = ap (λ (cs : List (Option ℕ)). flat (slice_get cs j)) e
first-step f fs a rest j false o e h = shift f fs j o ∙ h

module _ (ts : List Ty) (once : EachOnce ts) (t : Id) (low : t.0 < length ts) (j : ℕ) where
  first-found : (trees : List Id) (found : List Interface) (above : List Answered) → SpellAll ts trees (map (λ (a : Answered). a.interface) above) → theirs found ≡ map (λ (a : Answered). a.choices) above
      → choice_at found j (first_place t.0 trees) ≡ of-answer j (first_of (λ (a : Answered). same_tree a.interface (at ts t)) above)
  first-found [] found [] s e = refl
  first-found [] found (a ∷ above) s e = let l = ap length s.are in absurd (omega (arith, l))
  first-found (k ∷ trees) found [] s e = let l = ap length s.are in absurd (omega (arith, l))
  first-found (k ∷ trees) [] (a ∷ above) s e = let l = ap length e in absurd (omega (arith, l))
  first-found (k ∷ trees) (f ∷ fs) (a ∷ above) s e =
      let parts = and_parts _ _ s.within in
      let inside = ltb-true k.0 (length ts) parts.0 in
      let are : at ts k ∷ at_all ts trees ≡ a.interface ∷ map (λ (a : Answered). a.interface) above = s.are in
      let first : at ts k ≡ a.interface = cc in
      let rest : at_all ts trees ≡ map (λ (a : Answered). a.interface) above = cc in
      let same : f.choices ∷ theirs fs ≡ a.choices ∷ map (λ (a : Answered). a.choices) above = e in
      let one : f.choices ≡ a.choices = cc in
      let more : theirs fs ≡ map (λ (a : Answered). a.choices) above = cc in
      let test : nat_eq k.0 t.0 ≡ same_tree a.interface (at ts t) = tree_test ts once k t inside low ∙ ap (λ u. same_tree u (at ts t)) first in
      let others = first_of (λ (a : Answered). same_tree a.interface (at ts t)) above in
      first-step f fs a others j (nat_eq k.0 t.0) (first_place t.0 trees) one (first-found trees fs above (record { within = parts.1; are = rest }) more)
      ∙ ap (λ b. of-answer j (cond b (Some a) others)) test

pub finds-inherited : (ts : List Ty) → EachOnce ts → (places : Numbers) (found : List Interface) (t : Id) (j : ℕ) (choice : Option ℕ) → t.0 < length ts → choice ≡ choice_at found j (get nat_eq places t.0) → FindsInherited ts places found t j choice
finds-inherited ts once places found t j choice low is trees above noted are =
    is ∙ ap (choice_at found j) (noted t.0) ∙ first-found ts once t low j trees found above are.interfaces are.choices
