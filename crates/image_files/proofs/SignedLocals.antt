-- Where all signatures of a file pass, the blob in each row of StandAloneSig does.
use Rattle.std.proofs.Common.{◌≡◌, ℕ, zero, suc, ◌+◌, ◌<◌, true, List, [], ◌∷◌, length, get_or, Result, Ok, Err, refl, sym, ◌∙◌, arith}
use Rattle.std.specs.List.{flat_map}
use Rattle.clr_base.specs.declared.image_fault.ImageFault.{ImageFault}
use Rattle.clr_base.specs.declared.image_fault.FaultKind.TheVariants.{BadSignature}
use Rattle.clr_base.specs.Checks.{Check, first_fault, after}
use Rattle.clr_base.proofs.Checks.{first_fault_append}
use Rattle.cli_tables.specs.Metadata.{Metadata}
use Rattle.image_rows.specs.declared.signature_checks.SigColumn.{SigColumn}
use Rattle.image_rows.specs.declared.signature_checks.SigKind.TheVariants as kind
use Rattle.image_rows.specs.declared.signature_checks.TheConstants.{SIG_COLUMNS}
use Rattle.image_rows.specs.Cells.{at, rows}
use Rattle.image_rows.specs.Rows.{token}
use Rattle.image_rows.specs.SignatureChecks.{AreSigned, is_signature_by, row_signature_checks, column_signature_checks, signature_checks}
use Rattle.image_rows.proofs.Passing.{passed_at, one_passes}

first_passes : (r s : Result (Unit {0}) ImageFault) → after r s ≡ Ok (tt {0}) → r ≡ Ok (tt {0})
first_passes (Ok x) s e = refl
first_passes (Err f) s e = cc

last_passes : (r s : Result (Unit {0}) ImageFault) → after r s ≡ Ok (tt {0}) → s ≡ Ok (tt {0})
last_passes (Ok x) s e = e
last_passes (Err f) s e = cc

-- where the checks of all things pass, those of each do
part_passes : {X : Type 0} (checks : X → List Check) (xs : List X) (k : ℕ) (d : X) → k < length xs → first_fault (flat_map checks xs) ≡ Ok (tt {0}) → first_fault (checks (get_or xs k d)) ≡ Ok (tt {0})
part_passes checks [] k d within e = absurd (omega arith)
part_passes checks (x ∷ xs) zero d within e = first_passes _ _ (sym (first_fault_append (checks x) (flat_map checks xs)) ∙ e)
part_passes checks (x ∷ xs) (suc k) d within e = part_passes checks xs k d (omega arith) (last_passes _ _ (sym (first_fault_append (checks x) (flat_map checks xs)) ∙ e))

-- the fourth column of signatures is that of StandAloneSig
abbrev locals_column : SigColumn
locals_column = record { table = 0x11; column = 0; kind = kind.Locals }

column_passes : (m : Metadata) → AreSigned m → first_fault (column_signature_checks m locals_column) ≡ Ok (tt {0})
unfolding signature_checks
column_passes m signed = part_passes (column_signature_checks m) SIG_COLUMNS 3 locals_column (omega arith) signed

row_passes : (m : Metadata) → AreSigned m → (row : ℕ) → row < rows m 0x11 → first_fault (row_signature_checks m locals_column (row + 1)) ≡ Ok (tt {0})
unfolding column_signature_checks
row_passes m signed row within = passed_at (rows m 0x11) row (λ r. row_signature_checks m locals_column (r + 1)) within (column_passes m signed)

pub locals_signed : (m : Metadata) → AreSigned m → (row : ℕ) → row < rows m 0x11 → is_signature_by m kind.Locals (at m 0x11 (row + 1) 0) ≡ true
unfolding row_signature_checks
locals_signed m signed row within =
    one_passes (is_signature_by m kind.Locals (at m 0x11 (row + 1) 0)) BadSignature (token 0x11 (row + 1)) (row_passes m signed row within)
