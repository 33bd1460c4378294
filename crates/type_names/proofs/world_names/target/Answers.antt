use Rattle.std.proofs.Common.{◌∙◌}
use Rattle.image_rows.specs.TypeNames.{name_of_ref}
use Rattle.type_names.proofs.Targets.{missing_settled}
use Rattle.type_names.proofs.world_names.target.Goals as goal

pub returns-in_ok-number-in-None-clause-target : goal.returns-in_ok-number-in-None-clause-target
returns-in_ok-number-in-None-clause-target c =
    missing_settled c.args.defs.now c.args.names.now c.number-in-None.new.self (name_of_ref c.args.tables.now c.args.row) c.as_str.result.now c.args.place
    c.in_ok-number-in-None.field-0 c.in-None.is (c.as_str.ensures ∙ c.in_ok-name-in-None.ensures) c.in_ok-number-in-None.ensures.kept
    c.in_ok-number-in-None.ensures.number
