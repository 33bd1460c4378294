-- Where System.__Canon stands.
use Rattle.std.specs.Prelude.{Bool, false, ◌||◌, ◌==◌, List, map}
use Rattle.std.specs.List.{list_any}
use Rattle.type_tree.specs.declared.tree.Ty.{Ty}
use Rattle.type_tree.specs.declared.tree.Ty.TheOpen.{Ty-F}
use Rattle.type_tree.specs.declared.tree.Ty.TheFolds.{fold-Ty}
use Rattle.type_tree.specs.declared.tree.Key.{Key}
use Rattle.type_tree.specs.declared.tree.Key.TheVariants.{Tree, Meth}
use Rattle.type_tree.specs.World.{Facts}

-- each part is given by whether it stands there
abbrev pub canon_step : Facts → Ty-F Bool → Bool
canon_step w (Ty-F.Inst d parts) = d.0 == w.canon.0 || list_any (λ p. p) parts
canon_step w (Ty-F.Array part) = part
canon_step w (Ty-F.ByRef part) = part
canon_step w (Ty-F.Ptr part) = part
canon_step w _ = false

-- whether it stands anywhere in a tree
abbrev pub has_canon : Facts → Ty → Bool
has_canon w = fold-Ty Bool (canon_step w)

abbrev pub any_has_canon : Facts → List Ty → Bool
any_has_canon w ts = list_any (λ p. p) (map (has_canon w) ts)

-- whether it stands anywhere in a key: in a type; in the owner or the arguments of a method
abbrev pub key_has_canon : Facts → Key → Bool
key_has_canon w (Tree t) = has_canon w t
key_has_canon w (Meth k) = has_canon w k.owner || any_has_canon w k.args
