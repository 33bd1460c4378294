-- Trees among others, and the definitions that they instantiate.
use Rattle.std.proofs.Common.{◌≡◌, ℕ, suc, ◌<◌, Bool, true, false, true≢false, ◌||◌, inl, inr, List, [], ◌∷◌, length, get_or, drop, drop-cons, Some, ap, ◌∙◌, sym, subst}
use Rattle.std.proofs.lemmas.Bool.{cases_Bool}
use Rattle.std.specs.List.{list_any}
use Rattle.type_tree.specs.declared.tree.Ty.{Ty}
use Rattle.type_tree.specs.contracts.tree.Ty as row-of-ty
use Rattle.type_tree.specs.Kinds.{head}
use Rattle.type_tree.specs.SameLaws.{same_is, is_same}
use Rattle.type_pool.specs.declared.nodes.Id.{Id}
use Rattle.type_pool.specs.Trees.{at, at_all}
use Rattle.method_slots.specs.Slots.{same_tree}
use Rattle.slot_chains.specs.Levels.{Places, IsNoted, OwnersNoted}

pub alike : (t u : Ty) → t ≡ u → same_tree t u ≡ true
alike t u e = is_same row-of-ty.the_row.coded t u e

pub unlike : (t u : Ty) → (t ≡ u → ⊥) → same_tree t u ≡ false
unlike t u f = elim (cases_Bool (same_tree t u)) [ inl e ↦ absurd (f (same_is row-of-ty.the_row.coded t u e)) | inr e ↦ e ]

-- one more of a list
pub any-step : (t : Ty) (ts : List Ty) (ids : List Id) (i : ℕ) (d : Id) → i < length ids
    → list_any (same_tree t) (at_all ts (drop i ids)) ≡ (same_tree t (at ts (get_or ids i d)) || list_any (same_tree t) (at_all ts (drop (suc i) ids)))
any-step t ts ids i d inside = ap (λ l. list_any (same_tree t) (at_all ts l)) (drop-cons ids i d inside)

either-way : (a b : Bool) → (a || b) ≡ true → a ≡ false → b ≡ true
either-way true b h e = absurd (true≢false e)
either-way false b h e = h

-- a tree that is among those whose owners are noted
pub owner-noted : (places : Places) (ts : List Ty) (t : Ty) (p : ℕ) → OwnersNoted places ts → list_any (same_tree t) ts ≡ true → head t ≡ Some p → IsNoted places p
owner-noted places [] t p owners h e = absurd (true≢false (sym h))
owner-noted places (u ∷ us) t p owners h e = elim (cases_Bool (same_tree t u)) [
  | inl f ↦
      let same : t ≡ u = same_is row-of-ty.the_row.coded t u f in
      let both : Some p ≡ Some owners.0.def = sym e ∙ ap head same ∙ owners.0.head in
      let one : owners.0.def ≡ p = cc in
      subst (IsNoted places) one owners.0.noted
  | inr f ↦ owner-noted places us t p owners.1 (either-way (same_tree t u) (list_any (same_tree t) us) h f) e
]
