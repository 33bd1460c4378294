use Rattle.std.proofs.Common.{◌+◌, ◌++◌, ◌∙◌, [], ◌∷◌, length, replicate, ap}
use Rattle.core_types.specs.CoreLibrary.{core_library}
use Rattle.image_files.specs.Images.{bytes_of_each}
use Rattle.type_members.specs.MemberTable.{of_each}
use Rattle.world_build.specs.Bodies.{file_bodies}
use Rattle.world_build.specs.Signatures.{file_keys, well_known}
use Rattle.world_build.specs.World.{file_defs, no_body, of_bytes, reader, world_file}
use Rattle.world_build.proofs.Builds.{members_few, world_is}
use Rattle.world_build.proofs.worlds.file_world.Goals as goal

pub name_files-requires-clause-core : goal.name_files-requires-clause-core
unfolding core_library
name_files-requires-clause-core c = ap (λ p. p.names) c.in_ok-core.ensures

pub all_members-requires-clause-defs : goal.all_members-requires-clause-defs
unfolding core_library
all_members-requires-clause-defs c = c.as_slice-2.ensures ∙ ap (λ p. p.defs) c.in_ok-core.ensures

pub all_members-requires-clause-methods : goal.all_members-requires-clause-methods
unfolding core_library
all_members-requires-clause-methods c = ap (λ p. p.methods) c.in_ok-core.ensures

pub new-requires : goal.new-requires
new-requires c = members_few c.args.tables.now c.in_ok-members.members c.in_ok-members.ensures c.requires.few

pub push_files-requires-clause-sigs : goal.push_files-requires-clause-sigs
unfolding well_known
push_files-requires-clause-sigs c = ap length c.in_ok-parts.ensures.sigs

pub returns : goal.returns
unfolding core_library
returns c =
    let ms = c.args.tables.now in
    let bytes = bytes_of_each c.args.files.now in
    let added = c.in_ok-push_files.ensures in
    let first = c.in_ok-parts.ensures in
    world_is bytes ms c.requires.images _ (c.in_ok-texts.ensures ∙ c.in_ok-named.ensures.names)
    (added.defs ∙ ap (λ xs. xs ++ of_each (file_defs ms) ms) (first.defs ∙ ap (λ p. p.defs) c.in_ok-core.ensures)) (ap (λ w. w.methods) c.in_ok-members.ensures)
    (added.bodies
    ∙ ap (λ xs. xs ++ of_bytes (λ b k m. file_bodies b (k + 1) m) 0 bytes)
    (first.bodies ∙ ap (λ n. replicate n no_body) (c.len-method_count.ensures ∙ ap (λ p. length p.methods) c.in_ok-core.ensures)))
    (ap (λ w. w.fields) c.in_ok-members.ensures) (added.sigs ∙ ap (λ xs. xs ++ of_each (λ k m. file_keys (reader ms k m)) ms) first.sigs) c.new-2.ensures
    (added.files ∙ ap (λ xs. xs ++ of_bytes (λ b k m. world_file ms b k m ∷ []) 0 bytes) first.files) c.def.ensures c.def-2.ensures c.def-3.ensures
