use Rattle.std.proofs.Common.{[], ◌∷◌, ◌&&◌, not, nat_lt, false, get_or, length, ap, ◌∙◌, arith}
use Rattle.clr_base.specs.Checks.{check, first_fault}
use Rattle.clr_base.specs.declared.image_fault.FaultKind.TheVariants.{BadIndex}
use Rattle.image_rows.proofs.Enclosing.{nesting_column}
use Rattle.image_rows.proofs.Noted.{nested_within, more_nested, as_nested_rule, nested_fault}
use Rattle.image_rows.proofs.row_rules.check_nesting.Goals as goal

pub cell-nested-requires : goal.cell-nested-requires
cell-nested-requires c = record { first = c.requires.first; last = c.requires.last; column = nesting_column 0 (omega arith) }

pub cell-enclosing-requires : goal.cell-enclosing-requires
cell-enclosing-requires c = record { first = c.requires.first; last = c.requires.last; column = nesting_column 1 (omega arith) }

pub bounds-as_slice-nested : goal.bounds-as_slice-nested
bounds-as_slice-nested c = omega (arith, nested_within c.args.tables.now c.args.row c.cell-nested.result c.cell-nested.ensures c.requires.columns, ap length c.as_slice.ensures, c.requires.seen.count)

pub set-requires : goal.set-requires
set-requires c = omega (arith, nested_within c.args.tables.now c.args.row c.cell-nested.result c.cell-nested.ensures c.requires.columns, c.requires.seen.count)

pub returns-clause-exact : goal.returns-clause-exact
returns-clause-exact c =
    c.check.ensures
    ∙ ap (λ p. first_fault (check c.may_nest-passes.result BadIndex p ∷ [])) c.token.ensures
    ∙ nested_fault c.args.tables.now c.args.row c.may_nest-passes.result
    (c.may_nest-passes.ensures ∙ ap (λ xs. nat_lt c.cell-enclosing.result c.cell-nested.result && not (get_or xs c.cell-nested.result false)) c.as_slice.ensures
    ∙ as_nested_rule c.args.tables.now c.args.row _ _ c.args.seen.now c.cell-enclosing.ensures c.cell-nested.ensures (nested_within c.args.tables.now c.args.row c.cell-nested.result c.cell-nested.ensures c.requires.columns) c.requires.seen)

pub returns-clause-seen : goal.returns-clause-seen
returns-clause-seen c =
    more_nested c.args.tables.now c.args.row c.cell-nested.result _ _ c.requires.first c.cell-nested.ensures (nested_within c.args.tables.now c.args.row c.cell-nested.result c.cell-nested.ensures c.requires.columns) c.requires.seen c.set.ensures
