use Rattle.image_rows.proofs.RefNames.{read_alone}
use Rattle.image_rows.proofs.ref_names.+name_within.Goals as goal

pub returns-then-outer-eq0 : goal.returns-then-outer-eq0
returns-then-outer-eq0 t c =
    read_alone c.args.most c.args.tables.now c.args.row c.outer-outer.result _ c.outer-outer.ensures.exact c.if-outer-eq0.true
    c.own_full_name-then-outer-eq0.ensures
