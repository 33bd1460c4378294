-- The items so far.
use Rattle.std.proofs.Common.{◌≡◌, map, take, Some}
use Rattle.type_record.proofs.naming.keys_in.Given as goal

abbrev pub invariant-loop-key : goal.invariant-loop-key
invariant-loop-key g l = map (g.H.Handles.handle_of l.names) (take l.key-index l.keys) ≡ map Some l.all
