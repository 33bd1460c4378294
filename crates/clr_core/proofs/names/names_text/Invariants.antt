use Rattle.std.proofs.Common.{◌≡◌, take}
use Rattle.std.specs.List.{flat_map, zip}
use Rattle.clr_core.specs.Command.{texts_of}
use Rattle.clr_core.specs.Names.{file_text, type_names}
use Rattle.clr_core.proofs.names.names_text.Given as goal

abbrev pub invariant-loop-k : goal.invariant-loop-k
invariant-loop-k l = l.text.items ≡ flat_map (λ file. file_text file.0 (type_names file.1)) (take l.k (zip (texts_of l.files) l.images))
