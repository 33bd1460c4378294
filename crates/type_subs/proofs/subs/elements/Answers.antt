use Rattle.std.proofs.Common.{true, false, ◌∙◌, sym}
use Rattle.type_tree.specs.contracts.tree.Ty as row-of-ty
use Rattle.type_tree.specs.SameLaws.{same_from_iff}
use Rattle.type_pool.specs.Trees.{at}
use Rattle.type_subs.proofs.SubLemmas.{fits_same, fits_other}
use Rattle.type_subs.proofs.subs.elements.Goals as goal

pub returns-then-same-clause-decides : goal.returns-then-same-clause-decides
returns-then-same-clause-decides c =
    let e = at c.args.pool.now c.args.part in let f = at c.args.pool.now c.args.other in
    let is = same_from_iff row-of-ty.the_row.coded c.same.result e f c.same.ensures in
    fits_same c.args.world.now e f (sym is ∙ c.if-same.true)

pub returns-then-are_references-clause-decides : goal.returns-then-are_references-clause-decides
returns-then-are_references-clause-decides c =
    let e = at c.args.pool.now c.args.part in let f = at c.args.pool.now c.args.other in
    let is = same_from_iff row-of-ty.the_row.coded c.same.result e f c.same.ensures in
    fits_other c.args.world.now e f true (sym is ∙ c.if-same.false) (sym c.are_references.ensures ∙ c.if-are_references.true)

pub returns-else-are_references-clause-decides : goal.returns-else-are_references-clause-decides
returns-else-are_references-clause-decides c =
    let e = at c.args.pool.now c.args.part in let f = at c.args.pool.now c.args.other in
    let is = same_from_iff row-of-ty.the_row.coded c.same.result e f c.same.ensures in
    sym (fits_other c.args.world.now e f false (sym is ∙ c.if-same.false) (sym c.are_references.ensures ∙ c.if-are_references.false))
