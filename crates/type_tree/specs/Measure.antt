-- How deep and how heavy a tree or a key is.
use Rattle.std.specs.Prelude.{ℕ, ◌+◌, max, List, [], ◌∷◌, map, sum}
use Rattle.type_tree.specs.declared.tree.Ty.{Ty}
use Rattle.type_tree.specs.declared.tree.Ty.TheOpen.{Ty-F}
use Rattle.type_tree.specs.declared.tree.Ty.TheFolds.{fold-Ty}
use Rattle.type_tree.specs.declared.tree.Key.{Key}
use Rattle.type_tree.specs.declared.tree.Key.TheVariants.{Tree, Meth}

-- the largest of some numbers, 0 of none
abbrev pub largest : List ℕ → ℕ
largest [] = 0
largest (n ∷ ns) = max n (largest ns)

-- one more than the depth of the deepest part, 1 where there are no parts;
-- each part is given by its depth
abbrev pub depth_step : Ty-F ℕ → ℕ
depth_step (Ty-F.Inst d parts) = largest parts + 1
depth_step (Ty-F.Array part) = part + 1
depth_step (Ty-F.ByRef part) = part + 1
depth_step (Ty-F.Ptr part) = part + 1
depth_step _ = 1

abbrev pub depth : Ty → ℕ
depth = fold-Ty ℕ depth_step

abbrev pub depth_of_all : List Ty → ℕ
depth_of_all ts = largest (map depth ts)

-- the parts of a method key are its owner and its arguments
abbrev pub depth_of_key : Key → ℕ
depth_of_key (Tree t) = depth t
depth_of_key (Meth k) = max (depth k.owner) (depth_of_all k.args) + 1

-- 1 and the weights of the parts; each part is given by its weight
abbrev pub weight_step : Ty-F ℕ → ℕ
weight_step (Ty-F.Inst d parts) = sum parts + 1
weight_step (Ty-F.Array part) = part + 1
weight_step (Ty-F.ByRef part) = part + 1
weight_step (Ty-F.Ptr part) = part + 1
weight_step _ = 1

abbrev pub weight : Ty → ℕ
weight = fold-Ty ℕ weight_step

abbrev pub weight_of_all : List Ty → ℕ
weight_of_all ts = sum (map weight ts)

abbrev pub weight_of_key : Key → ℕ
weight_of_key (Tree t) = weight t
weight_of_key (Meth k) = weight k.owner + weight_of_all k.args + 1
