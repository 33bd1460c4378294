use Rattle.std.proofs.Common.{◌≡◌, ◌++◌, codes, drop}
use Rattle.std.specs.List.{flat_map}
use Rattle.clr_core.specs.Names.{name_line}
use Rattle.clr_core.proofs.names.push_file.Given as goal

abbrev pub invariant-loop-name : goal.invariant-loop-name
invariant-loop-name l =
    l.text.items ++ flat_map name_line (drop l.name-index l.names)
    ≡ (l.fn.text.items ++ l.file ++ codes "\n") ++ flat_map name_line l.names
