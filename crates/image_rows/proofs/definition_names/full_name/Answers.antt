use Rattle.std.proofs.Common.{◌∙◌}
use Rattle.image_rows.proofs.FullTypeNames.{made_alone, made_nested, outer_listed, outer_inside}
use Rattle.image_rows.proofs.definition_names.full_name.Goals as goal

pub returns-then-outer-eq0 : goal.returns-then-outer-eq0
returns-then-outer-eq0 c =
    made_alone c.args.tables.now c.args.row c.args.outer c.text.result.now c.text-name.result.now c.qualified.result c.requires.outer c.if-outer-eq0.true
    c.text.ensures c.text-name.ensures c.qualified.ensures

pub bounds-before-outer : goal.bounds-before-outer
bounds-before-outer c = outer_inside c.args.tables.now c.args.row c.args.outer c.args.before.now c.requires.outer c.if-outer-eq0.false c.requires.before

pub returns : goal.returns
returns c =
    made_nested c.args.tables.now c.args.row c.args.outer c.as_str.result.now c.text-name.result.now c.in_ok-full.full c.requires.outer c.if-outer-eq0.false
    (c.as_str.ensures ∙ c.index-before-outer.is
    ∙ outer_listed c.args.tables.now c.args.row c.args.outer _ c.args.before.now c.requires.outer c.if-outer-eq0.false c.requires.before)
    c.text-name.ensures c.in_ok-full.ensures
