use Rattle.std.proofs.Common.{arith, ℕ, IsOk, subst, ◌+◌, [], ◌∷◌, ◌++◌, List, Ok, Err, drop, map, sym, ap, ap₂, ◌∙◌}
use Rattle.std.proofs.lemmas.Grind.{common_steps}
use Rattle.clr_base.proofs.Checks.{outcome_value}
use Rattle.image_files.specs.Counts.{are_few, totals_of, with_file}
use Rattle.image_rows.specs.Image.{metadata_in, tables_of}
use Rattle.image_files.specs.Images.{bytes_of_each, file_checks, next_image_of, images_behind}
use Rattle.image_rows.proofs.Giving.{given_fault}
use Rattle.image_files.proofs.ManyImages.{next_total, next_passes, next_fails, none_behind, one_more, all_of_them}
use Rattle.cli_tables.specs.Metadata.{Metadata}
use Rattle.image_files.proofs.RunningOut.{next_placed, none_passed, passes_on, ran_out}
use Rattle.image_files.proofs.images.read_images.Goals as goal

pub returns-in-Err-Fault-clause-exact : goal.returns-in-Err-Fault-clause-exact
returns-in-Err-Fault-clause-exact c =
    c.loop-k.invariant.behind
    ∙ next_fails (λ file. file.items) c.args.files.now c.loop-k.images c.loop-k.k c.index-files-k.result c.loop-k-test.true (sym c.index-files-k.is) c.in-Err-Fault.fault
    (ap (next_image_of c.loop-k.images) (sym c.as_slice.ensures.value)
    ∙ given_fault _ _ _ c.in-Err-Fault.field-0-is (c.in-Err-Fault.ensures.exact c.loop-k.images c.loop-k.invariant.counted))
    ∙ ap (λ n. Err (n + 1, c.in-Err-Fault.fault)) c.loop-k.invariant.count
    ∙ ap (λ f. Err (c.loop-k.k + 1, f)) (sym c.in-Err-Fault.fault-is)

pub loop-k-init : goal.loop-k-init
loop-k-init c = record {
  count = grind (arith, common_steps);
  passed = none_passed ∙ ap (λ (ms : List Metadata). Ok ms) (sym c.new-images.ensures);
  all = c.new-images.ensures;
  behind = ap (λ ms. images_behind ms (bytes_of_each c.args.files.now)) (sym c.new-images.ensures);
  counted = c.of_core-totals.ensures.exact ∙ ap totals_of (sym c.new-images.ensures);
  few = c.of_core-totals.ensures.few;
  rows = grind (arith, common_steps);
  signatures = grind (arith, common_steps);
}

pub returns-in-Err-Memory-clause-memory : goal.returns-in-Err-Memory-clause-memory
returns-in-Err-Memory-clause-memory c = λ short.
    ran_out c.args.files.now c.loop-k.k c.index-files-k.result c.loop-k.images c.loop-k-test.true (sym c.index-files-k.is) c.loop-k.invariant.passed
    c.loop-k.invariant.all (subst (λ (bytes : List ℕ). IsOk (tables_of bytes)) c.as_slice.ensures.value (c.in-Err-Memory.ensures.memory (ap (λ e. Err e) c.in-Err-Memory.field-0-is)))

pub returns-in_err-push-in-Ok-clause-memory : goal.returns-in_err-push-in-Ok-clause-memory
returns-in_err-push-in-Ok-clause-memory c = λ short.
    let passes = ap (next_image_of c.loop-k.images) (sym c.as_slice.ensures.value) ∙ c.in-Ok.ensures.exact c.loop-k.images c.loop-k.invariant.counted in
    ran_out c.args.files.now c.loop-k.k c.index-files-k.result c.loop-k.images c.loop-k-test.true (sym c.index-files-k.is) c.loop-k.invariant.passed
    c.loop-k.invariant.all (next_placed c.loop-k.images c.index-files-k.result.items c.in-Ok.image passes)

pub loop-k-preserved : goal.loop-k-preserved
loop-k-preserved c =
    let pushed = c.in_ok-push-in-Ok.ensures.ok in
    let passes = ap (next_image_of c.loop-k.images) (sym c.as_slice.ensures.value) ∙ c.in-Ok.ensures.exact c.loop-k.images c.loop-k.invariant.counted in
    record {
      count = grind (arith, common_steps);
      passed =
          passes_on c.args.files.now c.loop-k.k c.index-files-k.result c.loop-k.images c.loop-k-test.true (sym c.index-files-k.is) c.loop-k.invariant.passed
          c.in-Ok.image passes
          ∙ ap (λ (ms : List Metadata). Ok ms) (sym pushed);
      all =
          pushed
          ∙ ap₂ (λ ms m. ms ++ m ∷ []) c.loop-k.invariant.all
          (outcome_value (file_checks c.loop-k.images c.index-files-k.result.items) (metadata_in c.index-files-k.result.items) c.in-Ok.image passes)
          ∙ sym (one_more (λ file. file.items) c.args.files.now c.loop-k.images c.loop-k.k c.index-files-k.result c.loop-k-test.true (sym c.index-files-k.is));
      behind =
          c.loop-k.invariant.behind
          ∙ next_passes (λ file. file.items) c.args.files.now c.loop-k.images c.loop-k.k c.index-files-k.result c.loop-k-test.true (sym c.index-files-k.is) c.in-Ok.image
          passes
          ∙ ap (λ ms. images_behind ms (map (λ file. file.items) (drop (c.loop-k.k + 1) c.args.files.now))) (sym pushed);
      counted =
          c.in-Ok.ensures.totals ∙ ap (λ t. with_file t c.in-Ok.image) c.loop-k.invariant.counted ∙ sym (next_total c.loop-k.images c.in-Ok.image)
          ∙ ap totals_of (sym pushed);
      few = c.in-Ok.ensures.few;
      rows = grind (arith, common_steps);
      signatures = grind (arith, common_steps);
    }

pub returns-clause-exact : goal.returns-clause-exact
returns-clause-exact c =
    c.loop-k.invariant.behind ∙ none_behind (λ file. file.items) c.args.files.now c.loop-k.images c.loop-k.k c.loop-k-test.false

pub returns-clause-all : goal.returns-clause-all
returns-clause-all c = c.loop-k.invariant.all ∙ all_of_them (λ file. file.items) c.args.files.now c.loop-k.k c.loop-k-test.false

pub returns-clause-few : goal.returns-clause-few
returns-clause-few c = ap are_few (sym c.loop-k.invariant.counted) ∙ c.loop-k.invariant.few
