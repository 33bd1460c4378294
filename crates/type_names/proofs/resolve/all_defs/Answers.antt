use Rattle.std.proofs.Common.{◌≡◌, sym, subst, arith, length}
use Rattle.type_names.specs.declared.type_texts.FileTexts.{FileTexts}
use Rattle.type_names.specs.TypeFinders.{FindsKeys}
use Rattle.type_names.proofs.Finders.{indexed_more, indexed_all}
use Rattle.type_names.proofs.resolve.all_defs.Goals as goal

pub loop-file-preserved : goal.loop-file-preserved
loop-file-preserved c =
    let m = c.index-files-file.result in
    let p = c.in_ok-first_defs.field-0 in
    let found = subst (λ (t : FileTexts). FindsKeys m t p) (sym c.index-texts-file.is) c.in_ok-first_defs.ensures in
    indexed_more c.args.files.now c.args.texts.now c.loop-file.file c.loop-file.defs _ m c.index-texts-file.result p c.loop-file.invariant
    c.index-files-file.is c.index-texts-file.is found c.in_ok-push.ensures.ok

pub returns : goal.returns
returns c =
    let all : c.loop-file.file ≡ length c.args.files.now = omega arith in
    indexed_all c.args.files.now c.args.texts.now c.loop-file.file c.loop-file.defs all c.loop-file.invariant
