-- The items so far.
use Rattle.std.proofs.Common.{◌≡◌, map, take, Some}
use Rattle.type_record.specs.Naming.{choice_in}
use Rattle.type_record.proofs.naming.choices_in.Given as goal

abbrev pub invariant-loop-choice : goal.invariant-loop-choice
invariant-loop-choice g l = map (choice_in (g.H.Handles.handle_of l.names)) (take l.choice-index l.choices) ≡ map (choice_in Some) l.all
