use Rattle.std.proofs.Common.{refl, ◌∙◌}
use Rattle.type_names.proofs.CoreSplits.{name_begins, name_behind}
use Rattle.type_names.proofs.core_texts.core_type_name.Goals as goal

pub range_from-requires : goal.range_from-requires
range_from-requires c = λ _.
    name_begins c.args.number _ c.core_namespace.result.now c.core_name.result.now c.requires c.core_namespace.ensures c.core_name.ensures refl c.core_name.utf8

pub returns : goal.returns
returns c =
    c.range_from.ensures.value
    ∙ name_behind c.args.number _ c.core_namespace.result.now c.core_name.result.now c.requires c.core_namespace.ensures c.core_name.ensures refl
