use Rattle.std.proofs.Common.{◌∙◌, [], List, replicate, ap, subst}
use Rattle.type_expands.specs.declared.links.Link.{Link}
use Rattle.type_expands.specs.Formals as spec
use Rattle.type_expands.proofs.Adding.{rows_are}
use Rattle.type_expands.proofs.rows.rows_of.Goals as goal

pub returns : goal.returns
returns c =
    let ss = c.args.spans.now in
    let old = c.in_ok-rows.rows.items in
    let new = c.add_links.new.rows.items in
    let empty = c.in_ok-rows.ensures ∙ ap (λ n. replicate n []) c.len.ensures in
    rows_are ss c.args.def.now old new empty (subst (λ (l : List Link). spec.IsAdded ss old l new) (c.as_slice.ensures ∙ c.in_ok-links.ensures) c.in_ok-add_links.ensures)
