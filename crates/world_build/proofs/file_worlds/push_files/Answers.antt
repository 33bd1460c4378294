use Rattle.std.proofs.Common.{ℕ, ◌+◌, ◌<◌, [], ◌∷◌, length, refl, sym, ap, ap₂, ◌∙◌, arith}
use Rattle.std.specs.Prelude.{Vec}
use Rattle.std.specs.declared.alloc.Global.{Global}
use Rattle.std.proofs.lemmas.List.{append-nil, length-map}
use Rattle.std.proofs.lemmas.Option.{slice_get_read}
use Rattle.world_build.specs.Bodies.{file_bodies}
use Rattle.image_rows.specs.Image.{metadata_in}
use Rattle.image_files.specs.Images.{bytes_of_each}
use Rattle.world_build.specs.Signatures.{file_keys}
use Rattle.image_files.specs.Signatures.{sigs_in}
use Rattle.world_build.specs.World.{file_defs, reader, world_file}
use Rattle.world_build.proofs.EachBytes.{bytes_file}
use Rattle.type_members.proofs.EachFile.{each_file}
use Rattle.world_build.proofs.FileParts.{can_read, defs_are, fields_small, image_is, methods_small, reader_is, sigs_before, sigs_small, slice_get_map, tokens_are}
use Rattle.type_members.proofs.PerFile.{before_more, before_none, names_count, names_read}
use Rattle.world_build.proofs.file_worlds.push_files.Goals as goal

pub loop-file-init : goal.loop-file-init
loop-file-init c =
    let parts = c.args.parts.now in
    record {
      defs = sym (append-nil parts.defs);
      bodies = sym (append-nil parts.bodies);
      sigs = sym (append-nil parts.sigs);
      tokens = sym (append-nil parts.files);
      fields = sym (before_none c.args.tables.now 0x04);
      methods = sym (before_none c.args.tables.now 0x06);
    }

pub bounds-called-file : goal.bounds-called-file
bounds-called-file c = omega (arith, names_count c.args.tables.now c.args.called.now c.requires.called)

pub overflow_add-first_method : goal.overflow_add-first_method
overflow_add-first_method c =
    let files = c.args.tables.now in
    let within : c.loop-file.file < length files = omega arith in
    let there = slice_get_read files (length files) c.loop-file.file c.index-tables-file.result refl within c.index-tables-file.is in
    omega (arith, c.loop-file.invariant.methods, methods_small files c.requires.few c.loop-file.file c.index-tables-file.result there)

pub new-requires : goal.new-requires
new-requires c =
    let files = c.args.tables.now in
    let k = c.loop-file.file in
    let m = c.index-tables-file.result in
    let n = c.index-called-file.result in
    let within : k < length files = omega arith in
    let there = slice_get_read files (length files) k m refl within c.index-tables-file.is in
    let called = names_read files k m c.args.called.now n n there c.requires.called c.index-called-file.is in
    can_read files c.requires.few k m there c.args.names.now c.args.members.now c.args.index.now n (98 + c.loop-file.before.methods) c.requires.names called
    (ap (λ (x : ℕ). 98 + x) c.loop-file.invariant.methods) c.requires.index

pub push_file-requires-clause-fields : goal.push_file-requires-clause-fields
push_file-requires-clause-fields c =
    let files = c.args.tables.now in
    let within : c.loop-file.file < length files = omega arith in
    let there = slice_get_read files (length files) c.loop-file.file c.index-tables-file.result refl within c.index-tables-file.is in
    omega (arith, c.loop-file.invariant.fields, fields_small files c.requires.few c.loop-file.file c.index-tables-file.result there)

pub push_file-requires-clause-methods : goal.push_file-requires-clause-methods
push_file-requires-clause-methods c =
    let files = c.args.tables.now in
    let within : c.loop-file.file < length files = omega arith in
    let there = slice_get_read files (length files) c.loop-file.file c.index-tables-file.result refl within c.index-tables-file.is in
    omega (arith, c.loop-file.invariant.methods, methods_small files c.requires.few c.loop-file.file c.index-tables-file.result there)

pub push_file-requires-clause-sigs : goal.push_file-requires-clause-sigs
push_file-requires-clause-sigs c =
    let files = c.args.tables.now in
    let k = c.loop-file.file in
    let within : k < length files = omega arith in
    let there = slice_get_read files (length files) k c.index-tables-file.result refl within c.index-tables-file.is in
    let own = ap (λ w. w.tables) c.in_ok-reader.ensures in
    let count = sigs_before files k c.args.parts.now.sigs c.loop-file.parts.sigs c.requires.sigs c.loop-file.invariant.sigs in
    let small = sigs_small files c.requires.few k c.index-tables-file.result there in
    let same = ap sigs_in own in
    omega (arith, count, small, same)

pub overflow_add-before : goal.overflow_add-before
overflow_add-before c =
    let files = c.args.tables.now in
    let within : c.loop-file.file < length files = omega arith in
    let there = slice_get_read files (length files) c.loop-file.file c.index-tables-file.result refl within c.index-tables-file.is in
    omega (arith, c.loop-file.invariant.fields, c.row_count.ensures.exact, fields_small files c.requires.few c.loop-file.file c.index-tables-file.result there)

pub loop-file-preserved : goal.loop-file-preserved
loop-file-preserved c =
    let files = c.args.tables.now in
    let bytes = bytes_of_each c.args.files.now in
    let k = c.loop-file.file in
    let m = c.index-tables-file.result in
    let n = c.index-called-file.result in
    let v = c.index-files-file.result in
    let within : k < length files = omega arith in
    let there = slice_get_read files (length files) k m refl within c.index-tables-file.is in
    let called = names_read files k m c.args.called.now n n there c.requires.called c.index-called-file.is in
    let before = c.loop-file.invariant in
    let read =
    c.in_ok-reader.ensures
    ∙ reader_is files k m c.args.names.now c.args.members.now n (98 + c.loop-file.before.methods) c.requires.names c.requires.members called
    (ap (λ (x : ℕ). 98 + x) before.methods)
    in
    let own = ap (λ w. w.tables) c.in_ok-reader.ensures in
    let count = ap length c.requires.images ∙ length-map bytes metadata_in ∙ length-map c.args.files.now (λ (file : Vec ℕ Global). file.items) in
    let stored = slice_get_read c.args.files.now (length c.args.files.now) k v refl (omega (arith, count)) c.index-files-file.is in
    let there_bytes = slice_get_map (λ (file : Vec ℕ Global). file.items) c.args.files.now k v stored in
    let image = image_is bytes files k v.items m c.requires.images there_bytes there in
    let first = sigs_before files k c.args.parts.now.sigs c.loop-file.parts.sigs c.requires.sigs before.sigs in
    let added = c.in_ok-push_file.ensures in
    record {
      defs =
          each_file (file_defs files) files k m c.args.parts.now.defs c.loop-file.parts.defs _ _ there before.defs
          (defs_are files k m n c.in_ok-reader.reader c.loop-file.before.fields c.loop-file.before.methods called read before.fields before.methods) added.defs;
      bodies =
          bytes_file (λ b k m. file_bodies b (k + 1) m) bytes k v.items c.args.parts.now.bodies c.loop-file.parts.bodies _ _ there_bytes before.bodies
          (ap₂ (λ b m. file_bodies b (k + 1) m) c.as_slice-bytes.ensures.value (own ∙ image)) added.bodies;
      sigs =
          each_file (λ k m. file_keys (reader files k m)) files k m c.args.parts.now.sigs c.loop-file.parts.sigs _ _ there before.sigs (ap file_keys read) added.sigs;
      tokens =
          bytes_file (λ b k m. world_file files b k m ∷ []) bytes k v.items c.args.parts.now.files c.loop-file.parts.files _ _ there_bytes before.tokens
          (ap (λ f. f ∷ [])
          (tokens_are files k m c.in_ok-reader.reader c.as_slice-bytes.result.now (length c.loop-file.parts.sigs) c.loop-file.before.fields c.loop-file.before.methods read
          first before.fields before.methods
          ∙ ap₂ (λ b m. world_file files b k m) c.as_slice-bytes.ensures.value image))
          added.files;
      fields = ap₂ ◌+◌ before.fields c.row_count.ensures.exact ∙ sym (before_more files k 0x04 m there);
      methods = ap₂ ◌+◌ before.methods c.row_count-in-loop-file.ensures.exact ∙ sym (before_more files k 0x06 m there);
    }
