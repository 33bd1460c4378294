-- The fault of a key whose arguments fail a constraint (ECMA-335 II.10.1.7).
use Rattle.std.specs.Prelude.{Bool, not, ◌&&◌}
use Rattle.type_tree.specs.declared.tree.Key.{Key}
use Rattle.type_tree.specs.World.{Facts}
use Rattle.type_subs.specs.Canons.{key_has_canon}
use Rattle.type_subs.specs.Constraints.{key_fails}

-- An argument fails a constraint, and no System.__Canon, which stands for each reference type, is in the key.
abbrev pub is_constraint_fault : Facts → Key → Bool
is_constraint_fault w k = not (key_has_canon w k) && key_fails w k
