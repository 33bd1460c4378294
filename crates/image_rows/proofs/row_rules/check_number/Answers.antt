use Rattle.std.proofs.Common.{[], ◌∷◌, nat_eq, get_or, length, ap, ◌∙◌, arith}
use Rattle.clr_base.specs.Checks.{check, first_fault}
use Rattle.clr_base.specs.declared.image_fault.FaultKind.TheVariants.{BadIndex}
use Rattle.image_rows.proofs.Noted.{generic_column, owner_within, more_owned, noted, noted_few, number_fault}
use Rattle.image_rows.proofs.row_rules.check_number.Goals as goal

pub cell-number-requires : goal.cell-number-requires
cell-number-requires c = record { first = c.requires.first; last = c.requires.last; column = generic_column 0 (omega arith) }

pub cell-owner-requires : goal.cell-owner-requires
cell-owner-requires c = record { first = c.requires.first; last = c.requires.last; column = generic_column 2 (omega arith) }

pub bounds-as_slice-owner : goal.bounds-as_slice-owner
bounds-as_slice-owner c = omega (arith, owner_within c.args.tables.now c.args.row c.cell-owner.result c.cell-owner.ensures c.requires.columns, ap length c.as_slice.ensures, c.requires.owned.count)

pub overflow_add-before : goal.overflow_add-before
overflow_add-before c = omega (arith, noted_few c.args.tables.now c.args.row c.cell-owner.result c.as_slice.result.now c.args.owned.now c.as_slice.ensures (owner_within c.args.tables.now c.args.row c.cell-owner.result c.cell-owner.ensures c.requires.columns) c.requires.owned, c.requires.first)

pub set-requires : goal.set-requires
set-requires c = omega (arith, owner_within c.args.tables.now c.args.row c.cell-owner.result c.cell-owner.ensures c.requires.columns, c.requires.owned.count)

pub returns-clause-exact : goal.returns-clause-exact
returns-clause-exact c =
    c.check.ensures
    ∙ ap (λ p. first_fault (check (nat_eq c.cell-number.result (get_or c.as_slice.result.now c.cell-owner.result 0)) BadIndex p ∷ [])) c.token.ensures
    ∙ number_fault c.args.tables.now c.args.row _ _ c.cell-owner.result c.cell-number.ensures c.cell-owner.ensures (noted c.args.tables.now c.args.row c.cell-owner.result c.as_slice.result.now c.args.owned.now c.as_slice.ensures (owner_within c.args.tables.now c.args.row c.cell-owner.result c.cell-owner.ensures c.requires.columns) c.requires.owned)

pub returns-clause-owned : goal.returns-clause-owned
returns-clause-owned c =
    let within = owner_within c.args.tables.now c.args.row c.cell-owner.result c.cell-owner.ensures c.requires.columns in
    more_owned c.args.tables.now c.args.row c.cell-owner.result _ c.args.owned.now _ c.requires.first c.cell-owner.ensures (omega (arith, within, c.requires.owned.count))
    (noted c.args.tables.now c.args.row c.cell-owner.result c.as_slice.result.now c.args.owned.now c.as_slice.ensures within c.requires.owned) c.requires.owned c.set.ensures
