use Rattle.std.proofs.Common.{◌≡◌, ◌+◌, ◌++◌, [], ◌∷◌, take}
use Rattle.world_build.specs.Bodies.{file_bodies}
use Rattle.image_files.specs.Images.{bytes_of_each}
use Rattle.type_members.specs.MemberTable.{of_each}
use Rattle.type_names.specs.Resolution.{rows_before}
use Rattle.world_build.specs.Signatures.{file_keys}
use Rattle.world_build.specs.World.{file_defs, of_bytes, reader, world_file}
use Rattle.world_build.proofs.file_worlds.push_files.Given as goal

abbrev pub invariant-loop-file : goal.invariant-loop-file
invariant-loop-file l = record {
  defs : l.parts.defs ≡ l.fn.parts.defs ++ of_each (file_defs l.tables) (take l.file l.tables);
  bodies : l.parts.bodies ≡ l.fn.parts.bodies ++ of_bytes (λ b k m. file_bodies b (k + 1) m) 0 (take l.file (bytes_of_each l.files));
  sigs : l.parts.sigs ≡ l.fn.parts.sigs ++ of_each (λ k m. file_keys (reader l.tables k m)) (take l.file l.tables);
  tokens : l.parts.files ≡ l.fn.parts.files ++ of_bytes (λ b k m. world_file l.tables b k m ∷ []) 0 (take l.file (bytes_of_each l.files));
  fields : l.before.fields ≡ rows_before l.tables l.file 0x04;
  methods : l.before.methods ≡ rows_before l.tables l.file 0x06;
}
