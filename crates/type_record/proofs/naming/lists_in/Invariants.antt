-- The items so far.
use Rattle.std.proofs.Common.{◌≡◌, map, take, Some}
use Rattle.type_record.specs.Naming.{choice_in}
use Rattle.type_record.proofs.naming.lists_in.Given as goal

abbrev pub invariant-loop-choices : goal.invariant-loop-choices
invariant-loop-choices g l = map (map (choice_in (g.H.Handles.handle_of l.names))) (take l.choices-index l.lists) ≡ map (map (choice_in Some)) l.all
