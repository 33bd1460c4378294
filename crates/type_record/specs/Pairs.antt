-- Handles of keys by pairs.
use Rattle.std.specs.Prelude.{List, Option, find, option_map}
use Rattle.clr_base.specs.declared.ids.Handle.{Handle}
use Rattle.type_tree.specs.declared.tree.Key.{Key}
use Rattle.type_tree.specs.Same.{same}
use Rattle.type_tree.specs.contracts.tree.Key as key

-- the handle in the first pair of the key
abbrev pub handle_in : List (Handle × Key) → Key → Option Handle
handle_in pairs k = option_map (λ p. p.0) (find (λ p. same key.the_row.coded p.1 k) pairs)
