use Rattle.std.proofs.Common.{◌≡◌, ◌+◌, ◌*◌, ◌≤◌, map, take, length}
use Rattle.std.specs.List.{enumerate_from, flat_map}
use Rattle.std.specs.Str.{bytes_eq}
use Rattle.core_types.specs.Names.{with_all}
use Rattle.type_names.specs.Numbering.{IsSettled}
use Rattle.type_names.specs.WorldNames.{file_texts, file_names_in}
use Rattle.type_names.proofs.world_names.name_files.Given as goal

abbrev pub invariant-loop-file : goal.invariant-loop-file
invariant-loop-file l = record {
  names : l.names ≡ with_all bytes_eq l.initial.names (flat_map (file_texts l.files) (take l.file (enumerate_from 0 l.files)));
  rows : IsSettled l.names (λ ns. map (λ f. file_names_in ns l.files f.0 f.1) (take l.file (enumerate_from 0 l.files))) l.rows;
  few : length l.names ≤ 53 + 67108860 * l.file;
}
