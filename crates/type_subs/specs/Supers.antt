-- A type and its supers: the parents and interfaces of it, those of these, and so on (ECMA-335 I.8.9.9, II.10.2, II.12.2).
use Rattle.std.specs.Prelude.{Bool, cond, List, [], ◌∷◌}
use Rattle.type_tree.specs.declared.tree.Ty.{Ty}
use Rattle.type_tree.specs.declared.tree.Key.{Key}
use Rattle.type_tree.specs.declared.tree.Key.TheVariants.{Tree}
use Rattle.type_tree.specs.World.{Facts}
use Rattle.key_closure.specs.Bounds.{is_within}
use Rattle.type_relations.specs.Relations.{supers_of}
use Rattle.type_subs.specs.Listing.{listed, has}

-- what 4,096 turns list, in which each of 4,096 keys is taken
unfoldable pub reached : Facts → Ty → List Key
reached w t = listed (supers_of w) (Tree t) 4096

-- The type and its supers; past the bounds of a closure, which count the type itself, there are no supers.
abbrev pub with_supers : Facts → Ty → List Key
with_supers w t = cond (is_within (reached w t)) (reached w t) (Tree t ∷ [])

-- whether g is k or one of its supers
abbrev pub extends : Facts → Ty → Ty → Bool
extends w k g = has (with_supers w k) (Tree g)
