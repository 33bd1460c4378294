use Rattle.std.proofs.Common.{◌≡◌, ◌+◌}
use Rattle.clr_base.specs.Checks.{each, first_fault, none_of}
use Rattle.image_rows.specs.BitNotes.{HavePassed}
use Rattle.image_rows.specs.SignatureChecks.{is_signature_by, row_signature_checks}
use Rattle.image_rows.proofs.signature_checks.check_column.Given as goal

abbrev pub invariant-loop-row : goal.invariant-loop-row
invariant-loop-row l = record {
  passed : first_fault (each l.row (λ r. row_signature_checks l.tables l.fn.column (r + 1))) ≡ none_of;
  noted : HavePassed (is_signature_by l.tables l.fn.column.kind) l.noted.items;
}
