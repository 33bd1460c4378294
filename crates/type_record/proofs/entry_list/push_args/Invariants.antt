-- The items so far stand behind what stood there.
use Rattle.std.proofs.Common.{◌≡◌, ◌++◌, map, take}
use Rattle.type_record.specs.Records.{arg_entry}
use Rattle.type_record.proofs.entry_list.push_args.Given as goal

abbrev pub invariant-loop-arg : goal.invariant-loop-arg
invariant-loop-arg g l = l.all ≡ l.fn.all ++ map arg_entry (take l.arg-index l.args)
