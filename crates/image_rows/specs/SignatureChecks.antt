-- The checks of a file's signatures, in order (ECMA-335 II.23.2): column by column, row by row. They stand behind the checks
-- of rows, so each blob is there. The place of a fault is the token of the row.
use Rattle.std.specs.Prelude.{◌≡◌, ℕ, ◌+◌, List, [], ◌∷◌, Bool, true, is_ok, if◌then◌else◌}
use Rattle.std.specs.List.{flat_map}
use Rattle.clr_base.specs.declared.image_fault.FaultKind.TheVariants.{BadSignature}
use Rattle.clr_base.specs.Checks.{Check, check, each, first_fault, none_of}
use Rattle.cli_sigs.specs.declared.signature.RowCounts.{RowCounts}
use Rattle.cli_sigs.specs.Signatures.{placed, field_at, member_at, locals_at, whole_type_at, method_spec_at}
use Rattle.cli_tables.specs.Layout.{row_count}
use Rattle.cli_tables.specs.Metadata.{Metadata}
use Rattle.image_rows.specs.declared.signature_checks.SigColumn.{SigColumn}
use Rattle.image_rows.specs.declared.signature_checks.SigKind.{SigKind}
use Rattle.image_rows.specs.declared.signature_checks.SigKind.TheVariants as kind
use Rattle.image_rows.specs.declared.signature_checks.TheConstants.{SIG_COLUMNS}
use Rattle.image_rows.specs.Blobs.{begins_with, row_counts}
use Rattle.image_rows.specs.Cells.{at, blob_by}
use Rattle.image_rows.specs.Rows.{token}

-- Whether a blob is a signature of a kind. What a member's begins with tells a field's from a method's; of what else stands
-- where locals may stand nothing is asked.
unfoldable pub is_signature : RowCounts → SigKind → List ℕ → Bool
is_signature counts kind.Field blob = is_ok (placed blob (field_at counts blob))
is_signature counts kind.Method blob = is_ok (placed blob (member_at counts blob))
is_signature counts kind.Member blob =
    if begins_with 0x06 blob then is_ok (placed blob (field_at counts blob)) else is_ok (placed blob (member_at counts blob))
is_signature counts kind.Locals blob = if begins_with 0x07 blob then is_ok (placed blob (locals_at counts blob)) else true
is_signature counts kind.Type blob = is_ok (placed blob (whole_type_at counts blob))
is_signature counts kind.Arguments blob = is_ok (placed blob (method_spec_at counts blob))

unfoldable pub is_signature_by : Metadata → SigKind → ℕ → Bool
is_signature_by m kind index = is_signature (row_counts m) kind (blob_by m index)

-- the signature in a row
unfoldable pub row_signature_checks : Metadata → SigColumn → ℕ → List Check
row_signature_checks m c row = check (is_signature_by m c.kind (at m c.table row c.column)) BadSignature (token c.table row) ∷ []

unfoldable pub column_signature_checks : Metadata → SigColumn → List Check
column_signature_checks m c = each (row_count m.tables c.table) (λ r. row_signature_checks m c (r + 1))

unfoldable pub signature_checks : Metadata → List Check
signature_checks m = flat_map (column_signature_checks m) SIG_COLUMNS

-- all signatures pass
abbrev pub AreSigned : Metadata → Type 0
AreSigned m = first_fault (signature_checks m) ≡ none_of
