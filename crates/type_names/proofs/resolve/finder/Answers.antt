use Rattle.std.proofs.Common.{List, sym, subst, arith}
use Rattle.type_names.specs.declared.type_texts.FileTexts.{FileTexts}
use Rattle.type_names.specs.TypeFinders.{AreIndexed, AreTexts}
use Rattle.type_names.proofs.Finders.{core_finds, defs_found, texts_sized}
use Rattle.type_names.proofs.TextNumbers.{core_on}
use Rattle.type_names.proofs.resolve.finder.Goals as goal

pub all_defs-requires : goal.all_defs-requires
all_defs-requires c =
    texts_sized c.all_texts.new.names c.args.files.now c.as_slice.result.now
    (subst (AreTexts c.all_texts.new.names c.args.files.now) (sym c.as_slice.ensures) c.in_ok-texts.ensures.texts)

pub returns-clause-finder : goal.returns-clause-finder
returns-clause-finder c =
    let core = core_on c.core_texts.new.names c.all_texts.new.names c.in_ok-core.core c.in_ok-texts.ensures.extends c.in_ok-core.ensures.texts in
    record {
      few = omega (arith, c.requires);
      core = core;
      core_types = core_finds c.all_texts.new.names c.in_ok-core.core c.in_ok-core_types.core_types core c.in_ok-core_types.ensures;
      texts = c.in_ok-texts.ensures.texts;
      defs =
          defs_found c.all_texts.new.names c.args.files.now c.in_ok-texts.texts c.in_ok-defs.defs c.in_ok-texts.ensures.texts
          (subst (λ (l : List FileTexts). AreIndexed c.args.files.now l c.in_ok-defs.defs) c.as_slice.ensures c.in_ok-defs.ensures);
    }
