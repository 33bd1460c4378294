use Rattle.std.proofs.Common.{sym, ap, refl, subst, arith}
use Rattle.std.proofs.lemmas.Result.{err_from_is_err_and}
use Rattle.image_files.specs.Images.{bytes_of_each}
use Rattle.clr_core.specs.Command.{texts_of}
use Rattle.clr_core.specs.Fetched.{AreFiles}
use Rattle.clr_core.proofs.Checking.{fetch_stopped, checks_stopped, reports}
use Rattle.clr_core.proofs.Fetching.{files_count, calm_words}
use Rattle.clr_core.proofs.FileWords.{as_many, few_files}
use Rattle.clr_core.proofs.top.run.Goals as goal

pub text_of-requires-clause-count : goal.text_of-requires-clause-count
text_of-requires-clause-count g c =
    files_count (g.F.Shelf.files c.args.shelf.now) c.in-Some.names.now c.in_ok-files.files c.as_slice.result.now c.in_ok-files.ensures.bytes c.as_slice.ensures

pub text_of-requires-clause-few : goal.text_of-requires-clause-few
text_of-requires-clause-few g c =
    let few = few_files (texts_of c.args.words.now) (texts_of c.in-Some.names.now) (sym c.in-Some.ensures) in
    let count = as_many c.in-Some.names.now in
    omega arith

pub returns-in_err-text-clause-happened : goal.returns-in_err-text-clause-happened
returns-in_err-text-clause-happened g c =
    let p = err_from_is_err_and c.from_residual-in_err-text.result c.from_residual-in_err-text.ensures.1 in
    rw (p.1, p.2)
    (checks_stopped _ (texts_of c.in-Some.names.now) (bytes_of_each c.as_slice.result.now) _ (sym c.in-Some.ensures)
    (subst (λ bytes. AreFiles (g.F.Shelf.files c.args.shelf.now) (texts_of c.in-Some.names.now) bytes) (ap bytes_of_each (sym c.as_slice.ensures))
    c.in_ok-files.ensures.bytes)
    (calm_words _ c.in-Some.names.now c.in_ok-files.ensures.once)
    c.in_err-text.ensures.stopped (record { content = refl; faults = refl }))

pub returns-in_err-files-clause-happened : goal.returns-in_err-files-clause-happened
returns-in_err-files-clause-happened g c =
    let p = err_from_is_err_and c.from_residual.result c.from_residual.ensures.1 in
    rw (p.1, p.2)
    (fetch_stopped _ (texts_of c.in-Some.names.now) _ (sym c.in-Some.ensures) c.in_err-files.ensures.stopped (record { content = refl; faults = refl }))

pub returns-in-Ok-clause-happened : goal.returns-in-Ok-clause-happened
returns-in-Ok-clause-happened g c = (
  c.as_slice-2.result.now,
  reports _ (texts_of c.in-Some.names.now) (bytes_of_each c.in_ok-files.files) (bytes_of_each c.as_slice.result.now) c.in_ok-text.text c.as_slice-2.result.now
      (sym c.in-Some.ensures) c.in_ok-files.ensures.bytes (calm_words _ c.in-Some.names.now c.in_ok-files.ensures.once) (ap bytes_of_each c.as_slice.ensures) c.in_ok-text.ensures.text c.as_slice-2.ensures,
  record { content = c.in-Ok.ensures.text; faults = c.in-Ok.ensures.cause },
)

pub returns-clause-happened : goal.returns-clause-happened
returns-clause-happened g c = (
  c.as_slice-2.result.now,
  reports _ (texts_of c.in-Some.names.now) (bytes_of_each c.in_ok-files.files) (bytes_of_each c.as_slice.result.now) c.in_ok-text.text c.as_slice-2.result.now
      (sym c.in-Some.ensures) c.in_ok-files.ensures.bytes (calm_words _ c.in-Some.names.now c.in_ok-files.ensures.once) (ap bytes_of_each c.as_slice.ensures) c.in_ok-text.ensures.text c.as_slice-2.ensures,
  record { content = c.in-Err.ensures.text; faults = c.in-Err.ensures.cause },
)
