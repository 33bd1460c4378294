-- What the tree of a level says of the level.
use Rattle.std.proofs.Common.{◌≡◌, ℕ, ◌≤◌, nat_lt, true, List, [], ◌∷◌, ◌++◌, length, map, refl, ap, ap₂, ◌∙◌, arith}
use Rattle.std.proofs.lemmas.Bool.{and_parts, lt-ltb, ltb-true}
use Rattle.std.proofs.Math.ListN.{get_or-append}
use Rattle.type_tree.specs.declared.tree.Ty.{Ty}
use Rattle.type_tree.specs.declared.tree.Ty.TheOpen.{Ty-F}
use Rattle.type_tree.specs.declared.tree.Ty.TheVariants as ty
use Rattle.type_tree.specs.declared.tree.Ty.TheViews.{out-Ty}
use Rattle.type_pool.specs.declared.nodes.Id.{Id}
use Rattle.type_pool.specs.declared.nodes.Node.{Node}
use Rattle.type_pool.specs.declared.nodes.Node.TheVariants.{Inst, Array, ByRef, Ptr, Var, MVar, Missing, Odd}
use Rattle.type_pool.specs.Trees.{at, at_all, tree_of, ids_below, parts_below}

pub at-grows : (ts more : List Ty) (a : Id) → nat_lt a.0 (length ts) ≡ true → at (ts ++ more) a ≡ at ts a
at-grows ts more a h = get_or-append ts more (ty.Odd 0) a.0 (ltb-true a.0 (length ts) h)

pub at_all-grows : (ts more : List Ty) (ids : List Id) → ids_below (length ts) ids ≡ true → at_all (ts ++ more) ids ≡ at_all ts ids
at_all-grows ts more [] h = refl
at_all-grows ts more (a ∷ ids) h = let parts = and_parts _ _ h in ap₂ ◌∷◌ (at-grows ts more a parts.0) (at_all-grows ts more ids parts.1)

-- the tree of a level stays where the pool grows
pub tree_of-grows : (ts more : List Ty) (n : Node) → parts_below (length ts) n ≡ true → tree_of (ts ++ more) n ≡ tree_of ts n
tree_of-grows ts more (Inst d parts) h = ap (ty.Inst d) (at_all-grows ts more parts h)
tree_of-grows ts more (Array part) h = ap ty.Array (at-grows ts more part h)
tree_of-grows ts more (ByRef part) h = ap ty.ByRef (at-grows ts more part h)
tree_of-grows ts more (Ptr part) h = ap ty.Ptr (at-grows ts more part h)
tree_of-grows ts more (Var n) h = refl
tree_of-grows ts more (MVar n) h = refl
tree_of-grows ts more (Missing name value) h = refl
tree_of-grows ts more (Odd code) h = refl

-- the level of a tree, whose parts `find` names
abbrev level_at : (Ty → Id) → Ty-F Ty → Node
level_at find (Ty-F.Inst d parts) = Inst d (map find parts)
level_at find (Ty-F.Array part) = Array (find part)
level_at find (Ty-F.ByRef part) = ByRef (find part)
level_at find (Ty-F.Ptr part) = Ptr (find part)
level_at find (Ty-F.Var n) = Var n
level_at find (Ty-F.MVar n) = MVar n
level_at find (Ty-F.Missing name value) = Missing name value
level_at find (Ty-F.Odd code) = Odd code

abbrev pub level_of : (Ty → Id) → Ty → Node
level_of find t = level_at find (out-Ty t)

module _ (ts : List Ty) (find : Ty → Id) (found : (a : Id) → nat_lt a.0 (length ts) ≡ true → find (at ts a) ≡ a) where
  pub all_found : (ids : List Id) → ids_below (length ts) ids ≡ true → map find (at_all ts ids) ≡ ids
  all_found [] h = refl
  all_found (a ∷ ids) h = let parts = and_parts _ _ h in ap₂ ◌∷◌ (found a parts.0) (all_found ids parts.1)

  -- a level is the one that its tree has
  pub level_of-tree : (n : Node) → parts_below (length ts) n ≡ true → level_of find (tree_of ts n) ≡ n
  level_of-tree (Inst d parts) h = ap (level_at find) (ty.outs-Inst d (at_all ts parts)) ∙ ap (Inst d) (all_found parts h)
  level_of-tree (Array part) h = ap (level_at find) (ty.outs-Array (at ts part)) ∙ ap Array (found part h)
  level_of-tree (ByRef part) h = ap (level_at find) (ty.outs-ByRef (at ts part)) ∙ ap ByRef (found part h)
  level_of-tree (Ptr part) h = ap (level_at find) (ty.outs-Ptr (at ts part)) ∙ ap Ptr (found part h)
  level_of-tree (Var n) h = ap (level_at find) (ty.outs-Var n)
  level_of-tree (MVar n) h = ap (level_at find) (ty.outs-MVar n)
  level_of-tree (Missing name value) h = ap (level_at find) (ty.outs-Missing name value)
  level_of-tree (Odd code) h = ap (level_at find) (ty.outs-Odd code)

below-more : (m n : ℕ) (a : Id) → m ≤ n → nat_lt a.0 m ≡ true → nat_lt a.0 n ≡ true
below-more m n a le h = let lt = ltb-true a.0 m h in lt-ltb a.0 n (omega arith)

pub ids_below-more : (m n : ℕ) (ids : List Id) → m ≤ n → ids_below m ids ≡ true → ids_below n ids ≡ true
ids_below-more m n [] le h = refl
ids_below-more m n (a ∷ ids) le h = let parts = and_parts _ _ h in rw (below-more m n a le parts.0) (ids_below-more m n ids le parts.1)

pub parts_below-more : (m n : ℕ) (node : Node) → m ≤ n → parts_below m node ≡ true → parts_below n node ≡ true
parts_below-more m n (Inst d parts) le h = ids_below-more m n parts le h
parts_below-more m n (Array part) le h = below-more m n part le h
parts_below-more m n (ByRef part) le h = below-more m n part le h
parts_below-more m n (Ptr part) le h = below-more m n part le h
parts_below-more m n (Var k) le h = refl
parts_below-more m n (MVar k) le h = refl
parts_below-more m n (Missing name value) le h = refl
parts_below-more m n (Odd code) le h = refl
