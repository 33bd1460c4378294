use Rattle.std.proofs.Common.{ℕ, ◌++◌, ◌∙◌, List, Some, ap, sym, arith}
use Rattle.std.proofs.lemmas.Option.{slice_get-get_or}
use Rattle.cli_tables.specs.Metadata.{Metadata}
use Rattle.clr_core.specs.Command.{texts_of}
use Rattle.clr_core.specs.Names.{file_text, type_names, names_text}
use Rattle.clr_core.proofs.Zipped.{pair_more, pairs_all}
use Rattle.clr_core.proofs.FileWords.{word_found}
use Rattle.clr_core.proofs.names.names_text.Goals as goal

pub loop-k-preserved : goal.loop-k-preserved
loop-k-preserved c =
    pair_more (λ file. file_text file.0 (type_names file.1)) (texts_of c.args.files.now) c.args.images.now c.loop-k.k c.as_str.result.now
    c.index-images-k.result c.loop-k.text.items c.push_file.new.text.items
    (word_found c.args.files.now c.loop-k.k c.index-files-k.result (omega (arith, c.loop-k-test.true, c.requires)) c.index-files-k.is
    ∙ ap (λ (word : List ℕ). Some word) (sym c.as_str.ensures.value))
    (slice_get-get_or c.args.images.now c.loop-k.k c.index-images-k.result (omega (arith, c.loop-k-test.true))
    ∙ ap (λ (m : Metadata). Some m) (sym c.index-images-k.is))
    c.loop-k.invariant
    (c.in_ok-push_file.ensures
    ∙ ap (λ (names : List (List ℕ)). c.loop-k.text.items ++ file_text c.as_str.result.now names) (c.as_slice.ensures ∙ c.in_ok-names.ensures))

pub returns : goal.returns
unfolding names_text
returns c =
    c.from_vec.ensures ∙ c.loop-k.invariant
    ∙ pairs_all (λ file. file_text file.0 (type_names file.1)) (texts_of c.args.files.now) c.args.images.now c.loop-k.k (omega arith)
