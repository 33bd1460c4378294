-- What is known of a definition while the methods of its interfaces are answered.
use Rattle.std.proofs.Common.{◌≡◌, ◌||◌, ℕ, suc, ◌<◌, nat_eq, Bool, true, false, cond, List, [], ◌∷◌, length, Option, None, Some, refl, ap, ◌∙◌, sym, subst, append-nil, arith, eqb-true, true≢false, inl, inr}
use Rattle.std.proofs.lemmas.Bool.{cases_Bool, and_parts, eq-eqb, ltb-true}
use Rattle.std.specs.HashMap.{get}
use Rattle.std.specs.List.{list_any}
use Rattle.std.specs.Option.{option_map}
use Rattle.type_tree.specs.declared.tree.Ty.{Ty}
use Rattle.type_pool.specs.declared.nodes.Id.{Id}
use Rattle.type_pool.specs.Jobs.{SpellAll}
use Rattle.type_pool.specs.Trees.{at, at_all, EachOnce, Grows}
use Rattle.method_slots.specs.declared.opens.OpenMethod.{OpenMethod}
use Rattle.method_slots.specs.OpenSets.{OpensGrow}
use Rattle.method_slots.specs.Slots.{same_tree}
use Rattle.interface_lists.proofs.Ids.{tree_test}
use Rattle.interface_maps.specs.Choices.{Public}
use Rattle.interface_maps.specs.Inherited.{first_place}
use Rattle.interface_maps.specs.Known.{FindsTree, is_there}
use Rattle.interface_maps.specs.Publics.{ArePublics, Numbers}
use Rattle.interface_maps.proofs.PublicLemmas.{publics-same}

swap : (a b : ℕ) → nat_eq a b ≡ nat_eq b a
swap a b = elim (cases_Bool (nat_eq a b)) [
  | inl e ↦ e ∙ sym (eq-eqb b a (sym (eqb-true a b e)))
  | inr e ↦ elim (cases_Bool (nat_eq b a)) [
    | inl f ↦ absurd (true≢false (sym (eq-eqb a b (sym (eqb-true b a f))) ∙ e))
    | inr f ↦ e ∙ sym f
  ]
]

there-step : (b : Bool) (o : Option ℕ) (c : Bool) → is_there o ≡ c → is_there (cond b (Some 0) (option_map (λ i. suc i) o)) ≡ (b || c)
there-step true o c e = refl
there-step false None c e = e
there-step false (Some i) c e = e

module _ (ts : List Ty) (once : EachOnce ts) (t : Id) (low : t.0 < length ts) where
  flip : (k : Id) → k.0 < length ts → nat_eq k.0 t.0 ≡ same_tree (at ts t) (at ts k)
  flip k inside = swap k.0 t.0 ∙ tree_test ts once t k low inside

  among : (ids : List Id) (trees : List Ty) → SpellAll ts ids trees → is_there (first_place t.0 ids) ≡ list_any (same_tree (at ts t)) trees
  among [] [] s = refl
  among [] (u ∷ trees) s = let l = ap length s.are in absurd (omega (arith, l))
  among (k ∷ ids) [] s = let l = ap length s.are in absurd (omega (arith, l))
  among (k ∷ ids) (u ∷ trees) s =
      let parts = and_parts _ _ s.within in
      let inside = ltb-true k.0 (length ts) parts.0 in
      let are : at ts k ∷ at_all ts ids ≡ u ∷ trees = s.are in
      let first : at ts k ≡ u = cc in
      let rest : at_all ts ids ≡ trees = cc in
      there-step (nat_eq k.0 t.0) (first_place t.0 ids) (list_any (same_tree (at ts t)) trees) (among ids trees (record { within = parts.1; are = rest }))
      ∙ ap (λ b. b || list_any (same_tree (at ts t)) trees) (flip k inside ∙ ap (same_tree (at ts t)) first)

  pub finds-tree : (places : Numbers) (is : Bool) → is ≡ is_there (get nat_eq places t.0) → FindsTree ts places t is
  finds-tree places is e ids trees noted spelled = e ∙ ap is_there (noted t.0) ∙ among ids trees spelled

pub publics-grown : (ts us : List Ty) (os xs : List OpenMethod) → Grows ts us → OpensGrow os xs → (numbers : Numbers) (ps : List Public) → ArePublics ts os numbers ps → ArePublics us xs numbers ps
publics-grown ts us os xs g h numbers ps are = subst (ArePublics us xs numbers) (append-nil ps) (publics-same ts us os xs g h numbers ps are)
