use Rattle.std.proofs.Common.{◌≡◌, [], refl, arith, length}
use Rattle.type_names.proofs.Finders.{texts_none, texts_more, texts_all}
use Rattle.type_names.proofs.TextNumbers.{extends_by, extends_on}
use Rattle.type_names.proofs.resolve.all_texts.Goals as goal

pub loop-tables-init : goal.loop-tables-init
loop-tables-init c = record {
  extends = extends_by c.args.names.now c.args.names.now [] refl;
  texts = texts_none c.args.names.now c.args.files.now c.new-texts.result c.new-texts.ensures;
  few = omega arith;
}

pub loop-tables-preserved : goal.loop-tables-preserved
loop-tables-preserved c =
    let before = c.loop-tables.invariant.few in
    let added = c.in_ok-file_texts.ensures.few in
    record {
      extends = extends_on c.args.names.now c.loop-tables.names c.file_texts.new.names c.loop-tables.invariant.extends c.in_ok-file_texts.ensures.extends;
      texts =
          texts_more c.loop-tables.names c.file_texts.new.names c.args.files.now c.loop-tables.tables-index c.loop-tables.texts _ c.tables-item.result
          c.in_ok-file_texts.field-0 c.loop-tables.invariant.texts c.in_ok-file_texts.ensures.extends c.tables-item.is c.in_ok-file_texts.ensures.texts
          c.in_ok-push.ensures.ok;
      few = omega arith;
    }

pub returns-clause-texts : goal.returns-clause-texts
returns-clause-texts c =
    let all : c.loop-tables.tables-index ≡ length c.args.files.now = omega arith in
    texts_all c.loop-tables.names c.args.files.now c.loop-tables.tables-index c.loop-tables.texts all c.loop-tables.invariant.texts
