-- Which key of nodes a type or a method is, and which types and methods have one.
use Rattle.std.specs.Prelude.{Bool, false, ◌&&◌, List, [], ◌∷◌, map}
use Rattle.std.specs.List.{list_all}
use Rattle.node_set.specs.Keys as nodes
use Rattle.type_tree.specs.declared.tree.Ty.{Ty}
use Rattle.type_tree.specs.declared.tree.Ty.TheOpen.{Ty-F}
use Rattle.type_tree.specs.declared.tree.Ty.TheFolds.{fold-Ty}
use Rattle.type_tree.specs.declared.tree.Key.{Key}
use Rattle.type_tree.specs.declared.tree.Key.TheVariants.{Tree, Meth}

-- arguments put to a key, from the left
abbrev pub put_all : nodes.Key → List nodes.Key → nodes.Key
put_all k [] = k
put_all k (x ∷ xs) = put_all (nodes.put k x) xs

-- one level, each part given by its key; of other forms no key is asked
abbrev pub spelled_step : Ty-F nodes.Key → nodes.Key
spelled_step (Ty-F.Inst d parts) = put_all (nodes.head d) parts
spelled_step (Ty-F.Array part) = nodes.array part
spelled_step _ = nodes.head (record { 0 = 0 })

abbrev pub spelled_type : Ty → nodes.Key
spelled_type = fold-Ty nodes.Key spelled_step

-- the key of nodes of a type, and of a method: the method of its owner, and its arguments
abbrev pub spelled : Key → nodes.Key
spelled (Tree t) = spelled_type t
spelled (Meth k) = put_all (nodes.method k.method (spelled_type k.owner)) (map spelled_type k.args)

-- made of definitions and arrays alone: no variable, no pointer, no name that no definition has, no form that is left out
abbrev pub is_plain_step : Ty-F Bool → Bool
is_plain_step (Ty-F.Inst d parts) = list_all (λ p. p) parts
is_plain_step (Ty-F.Array part) = part
is_plain_step _ = false

abbrev pub is_plain_type : Ty → Bool
is_plain_type = fold-Ty Bool is_plain_step

abbrev pub are_plain : List Ty → Bool
are_plain ts = list_all (λ p. p) (map is_plain_type ts)

abbrev pub is_plain : Key → Bool
is_plain (Tree t) = is_plain_type t
is_plain (Meth k) = is_plain_type k.owner && are_plain k.args
