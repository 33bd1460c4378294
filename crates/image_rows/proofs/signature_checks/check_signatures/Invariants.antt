use Rattle.std.proofs.Common.{◌≡◌, take}
use Rattle.std.specs.List.{flat_map}
use Rattle.clr_base.specs.Checks.{first_fault, none_of}
use Rattle.image_rows.specs.declared.signature_checks.TheConstants.{SIG_COLUMNS}
use Rattle.image_rows.specs.SignatureChecks.{column_signature_checks}
use Rattle.image_rows.proofs.signature_checks.check_signatures.Given as goal

abbrev pub invariant-loop-column : goal.invariant-loop-column
invariant-loop-column l = first_fault (flat_map (column_signature_checks l.tables) (take l.column-index SIG_COLUMNS)) ≡ none_of
