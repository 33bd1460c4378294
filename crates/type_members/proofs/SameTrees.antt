-- A test that tells whether two lists of trees are equal compares them tree by tree.
use Rattle.std.proofs.Common.{◌≡◌, Bool, true, false, ◌↔◌, IsTrue, List, [], ◌∷◌, refl, ap₂, sym, subst}
use Rattle.std.proofs.lemmas.Bool.{and_parts}
use Rattle.type_tree.specs.declared.tree.Ty.{Ty}
use Rattle.type_tree.specs.contracts.tree.Ty as row-of-ty
use Rattle.type_tree.specs.SameLaws.{same_is, is_same}
use Rattle.type_members.specs.MemberTable.{same_tree, same_trees}
use Rattle.clr_base.proofs.ListFacts.{both}

trees_are : (ts us : List Ty) → same_trees ts us ≡ true → ts ≡ us
trees_are [] [] h = refl
trees_are [] (u ∷ us) h = absurd cc
trees_are (t ∷ ts) [] h = absurd cc
trees_are (t ∷ ts) (u ∷ us) h =
    let parts = and_parts (same_tree t u) (same_trees ts us) h in
    ap₂ ◌∷◌ (same_is row-of-ty.the_row.coded t u parts.0) (trees_are ts us parts.1)

tree_itself : (t : Ty) → same_tree t t ≡ true
tree_itself t = is_same row-of-ty.the_row.coded t t refl

trees_themselves : (ts : List Ty) → same_trees ts ts ≡ true
trees_themselves [] = refl
trees_themselves (t ∷ ts) = both (same_tree t t) (same_trees ts ts) (tree_itself t) (trees_themselves ts)

-- two tests that hold together are one
agree : (a b : Bool) → (a ≡ true → b ≡ true) → (b ≡ true → a ≡ true) → a ≡ b
agree true b to from = sym (to refl)
agree false true to from = from refl
agree false false to from = refl

pub same_trees_from : (b : Bool) (ts us : List Ty) → IsTrue b ↔ (ts ≡ us) → b ≡ same_trees ts us
same_trees_from b ts us is =
    agree b (same_trees ts us) (λ h. subst (λ vs. same_trees ts vs ≡ true) (is.0 h) (trees_themselves ts)) (λ h. is.1 (trees_are ts us h))
