-- The checks of signatures, column by column.
use Rattle.std.proofs.Common.{◌≡◌, ℕ, zero, suc, ◌+◌, ◌<◌, Bool, List, [], ◌++◌, ◌∷◌, length, take, drop, Result, Ok, Err, is_ok, refl, sym, ap, ap₂, ◌∙◌, arith, get_or}
use Rattle.std.specs.List.{flat_map}
use Rattle.std.proofs.lemmas.Grind.{flat_map-append}
use Rattle.std.proofs.lemmas.List.{drop_more, take_more, take-append-drop}
use Rattle.clr_base.specs.declared.image_fault.ImageFault.{ImageFault}
use Rattle.clr_base.specs.declared.image_fault.FaultKind.TheVariants.{BadSignature}
use Rattle.clr_base.specs.Checks.{Check, check, first_fault}
use Rattle.clr_base.proofs.Checks.{outcome_failed, outcome_passed}
use Rattle.cli_sigs.specs.Signatures.{checked, counted}
use Rattle.cli_tables.specs.Metadata.{Metadata}
use Rattle.cli_tables.specs.Schema.{columns}
use Rattle.image_rows.specs.declared.signature_checks.SigColumn.{SigColumn}
use Rattle.image_rows.specs.declared.signature_checks.TheConstants.{SIG_COLUMNS}
use Rattle.image_rows.specs.Cells.{at}
use Rattle.image_rows.specs.Rows.{token}
use Rattle.image_rows.specs.SignatureChecks.{is_signature_by, row_signature_checks}

-- ---- checks of each of some things, one after another

module _ {X : Type 0} (checks : X → List Check) (xs : List X) (k : ℕ) (d : X) (within : k < length xs) (before : first_fault (flat_map checks (take k xs)) ≡ Ok (tt {0})) where
  pub flat_passed : first_fault (checks (get_or xs k d)) ≡ Ok (tt {0}) → first_fault (flat_map checks (take (k + 1) xs)) ≡ Ok (tt {0})
  flat_passed here =
      ap (λ ys. first_fault (flat_map checks ys)) (take_more xs k d within)
      ∙ ap first_fault (flat_map-append checks (take k xs) (get_or xs k d ∷ []))
      ∙ outcome_passed (flat_map checks (take k xs)) (flat_map checks (get_or xs k d ∷ [])) (tt {0}) (tt {0}) (tt {0}) before
      ∙ outcome_passed (checks (get_or xs k d)) [] (tt {0}) (tt {0}) (tt {0}) here

  pub flat_failed : (fault : ImageFault) → first_fault (checks (get_or xs k d)) ≡ Err fault → first_fault (flat_map checks xs) ≡ Err fault
  flat_failed fault here =
      ap (λ ys. first_fault (flat_map checks ys)) (sym (take-append-drop k xs) ∙ ap (λ ys. take k xs ++ ys) (drop_more xs k d within))
      ∙ ap first_fault (flat_map-append checks (take k xs) (get_or xs k d ∷ drop (k + 1) xs))
      ∙ outcome_passed (flat_map checks (take k xs)) (flat_map checks (get_or xs k d ∷ drop (k + 1) xs)) (tt {0}) (tt {0}) (tt {0}) before
      ∙ outcome_failed (checks (get_or xs k d)) (flat_map checks (drop (k + 1) xs)) (tt {0}) (tt {0}) fault here

-- ---- the columns

-- each of them is one of its table's
pub columns_are_there : (k : ℕ) (d : SigColumn) → k < length SIG_COLUMNS → (get_or SIG_COLUMNS k d).column < length (columns (get_or SIG_COLUMNS k d).table)
unfolding columns
columns_are_there zero d within = omega arith
columns_are_there (suc zero) d within = omega arith
columns_are_there (suc (suc zero)) d within = omega arith
columns_are_there (suc (suc (suc zero))) d within = omega arith
columns_are_there (suc (suc (suc (suc zero)))) d within = omega arith
columns_are_there (suc (suc (suc (suc (suc zero))))) d within = omega arith
columns_are_there (suc (suc (suc (suc (suc (suc k)))))) d within = absurd (omega arith)

-- ---- one blob

-- a check passes where something is read, and so does a count
pub checked_is : {X : Type 0} (held : Result X ℕ) → is_ok (checked held) ≡ is_ok held
checked_is (Ok x) = refl
checked_is (Err place) = refl

pub counted_is : {X : Type 0} (held : Result (List X) ℕ) → is_ok (counted held) ≡ is_ok held
counted_is (Ok xs) = refl
counted_is (Err place) = refl

pub ruleset read_or_not = (checked_is, counted_is)

-- ---- rows

-- the check of a row, by the index that stands there
pub row_check : (m : Metadata) (c : SigColumn) (row index place : ℕ) (good : Bool) → good ≡ is_signature_by m c.kind index → index ≡ at m c.table row c.column → place ≡ token c.table row
    → first_fault (check good BadSignature place ∷ []) ≡ first_fault (row_signature_checks m c row)
unfolding row_signature_checks
row_check m c row index place good good_is index_is place_is =
    ap₂ (λ b p. first_fault (check b BadSignature p ∷ [])) (good_is ∙ ap (is_signature_by m c.kind) index_is) place_is
