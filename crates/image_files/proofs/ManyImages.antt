-- One file more, behind those that pass their checks.
use Rattle.std.proofs.Common.{arith, ap₂, ◌≡◌, ℕ, ◌+◌, ◌<◌, ◌≤◌, Bool, true, false, cond, List, [], ◌∷◌, ◌++◌, map, length, take, drop, Result, Ok, Err, refl, sym, ap, ◌∙◌, get_or}
use Rattle.std.specs.List.{sum_by}
use Rattle.std.proofs.lemmas.List.Sums.{sum_by-append, sum_by-cons}
use Rattle.std.proofs.lemmas.List.{drop_more, drop_all, take_more, take_all, map-append}
use Rattle.clr_base.specs.declared.image_fault.ImageFault.{ImageFault}
use Rattle.clr_base.specs.Checks.{Check, outcome, first_fault}
use Rattle.clr_base.proofs.Checks.{outcome_failed, outcome_passed, outcome_value, outcome_of_fault}
use Rattle.cli_tables.specs.Metadata.{Metadata}
use Rattle.image_files.specs.declared.counts.Totals.{Totals}
use Rattle.image_rows.specs.Cells.{rows}
use Rattle.clr_base.specs.Core.{core_defs, core_methods}
use Rattle.image_files.specs.Counts.{totals_of, with_file, count_checks}
use Rattle.image_rows.specs.Image.{metadata_in, image_checks, image_of}
use Rattle.image_files.specs.Images.{file_checks, next_image_of, or_fault, images_behind}
use Rattle.image_files.specs.Signatures.{sigs_in}
use Rattle.image_files.proofs.FewEnough.{same_four}

passed_step : {X Y : Type 0} (passes : Bool) (fault : ImageFault) (z : X) (w : Y) (r : Result X ImageFault) (s : Result Y ImageFault)
    → (r ≡ Ok z → s ≡ Ok w) → cond passes r (Err fault) ≡ Ok z → cond passes s (Err fault) ≡ Ok w
passed_step true fault z w r s rest e = rest e
passed_step false fault z w r s rest e = cc

-- whether checks pass doesn't depend on the value
pub outcome_with : {X Y : Type 0} (a : List Check) (x z : X) (y : Y) → outcome a x ≡ Ok z → outcome a y ≡ Ok y
outcome_with [] x z y e = refl
outcome_with (c ∷ cs) x z y e = passed_step c.passes c.fault z y (outcome cs x) (outcome cs y) (outcome_with cs x z y) e

-- ---- the checks of a file behind others

pub next_total : (before : List Metadata) (m : Metadata) → totals_of (before ++ m ∷ []) ≡ with_file (totals_of before) m
unfolding totals_of with_file
next_total before m =
    let one = λ (f : Metadata → ℕ). sum_by-append f before (m ∷ []) ∙ ap (λ n. sum_by f before + n) (sum_by-cons f m []) in
    let defs : core_defs + sum_by (λ m. rows m 0x02) (before ++ m ∷ []) ≡ core_defs + sum_by (λ m. rows m 0x02) before + rows m 0x02 = omega (arith, one (λ m. rows m 0x02)) in
    let methods : core_methods + sum_by (λ m. rows m 0x06) (before ++ m ∷ []) ≡ core_methods + sum_by (λ m. rows m 0x06) before + rows m 0x06 = omega (arith, one (λ m. rows m 0x06)) in
    let fields : sum_by (λ m. rows m 0x04) (before ++ m ∷ []) ≡ sum_by (λ m. rows m 0x04) before + rows m 0x04 = omega (arith, one (λ m. rows m 0x04)) in
    let sigs : 3 + sum_by sigs_in (before ++ m ∷ []) ≡ 3 + sum_by sigs_in before + sigs_in m = omega (arith, one sigs_in) in
    same_four _ _ _ _ _ _ _ _ defs methods fields sigs

module _ (before : List Metadata) (bytes : List ℕ) where
  -- its own checks come first
  pub own_fails : (f : ImageFault) → image_of bytes ≡ Err f → next_image_of before bytes ≡ Err f
  unfolding file_checks
  own_fails f e =
      outcome_failed (image_checks bytes) (count_checks (totals_of (before ++ metadata_in bytes ∷ []))) (metadata_in bytes) (metadata_in bytes) f e

  module _ (m : Metadata) (t : Totals) (passes : image_of bytes ≡ Ok m) (counted : t ≡ totals_of before) where
    -- then the counts decide
    counts_decide : next_image_of before bytes ≡ outcome (count_checks (with_file t m)) (metadata_in bytes)
    unfolding file_checks
    counts_decide =
        outcome_passed (image_checks bytes) (count_checks (totals_of (before ++ metadata_in bytes ∷ []))) (metadata_in bytes) m (metadata_in bytes) passes
        ∙ ap (λ s. outcome (count_checks s) (metadata_in bytes))
        (next_total before (metadata_in bytes)
        ∙ ap₂ with_file (sym counted) (sym (outcome_value (image_checks bytes) (metadata_in bytes) m passes)))

    pub counts_fail : (f : ImageFault) → outcome (count_checks (with_file t m)) (with_file t m) ≡ Err f → next_image_of before bytes ≡ Err f
    counts_fail f e = counts_decide ∙ outcome_of_fault (count_checks (with_file t m)) (with_file t m) (metadata_in bytes) f e

    pub counts_pass : (s : Totals) → outcome (count_checks (with_file t m)) (with_file t m) ≡ Ok s → next_image_of before bytes ≡ Ok m
    counts_pass s e =
        counts_decide
        ∙ outcome_with (count_checks (with_file t m)) (with_file t m) s (metadata_in bytes) e
        ∙ ap (λ (v : Metadata). Ok v) (sym (outcome_value (image_checks bytes) (metadata_in bytes) m passes))

-- ---- files one after another

module _ {F : Type 0} (bytes : F → List ℕ) (files : List F) (before : List Metadata) (k : ℕ) (file : F) (within : k < length files) (is : get_or files k file ≡ file) where
  next_of : images_behind before (map bytes (drop k files))
      ≡ or_fault (length before + 1) (first_fault (file_checks before (bytes file))) (images_behind (before ++ metadata_in (bytes file) ∷ []) (map bytes (drop (k + 1) files)))
  unfolding images_behind
  next_of = ap (λ fs. images_behind before (map bytes fs)) (drop_more files k file within ∙ ap (λ f. f ∷ drop (k + 1) files) is)

  -- a file that passes
  pub next_passes : (m : Metadata) → next_image_of before (bytes file) ≡ Ok m
      → images_behind before (map bytes (drop k files)) ≡ images_behind (before ++ m ∷ []) (map bytes (drop (k + 1) files))
  next_passes m passes =
      next_of
      ∙ ap (λ r. or_fault (length before + 1) r (images_behind (before ++ metadata_in (bytes file) ∷ []) (map bytes (drop (k + 1) files))))
      (outcome_with (file_checks before (bytes file)) (metadata_in (bytes file)) m (tt {0}) passes)
      ∙ ap (λ n. images_behind (before ++ n ∷ []) (map bytes (drop (k + 1) files))) (sym (outcome_value (file_checks before (bytes file)) (metadata_in (bytes file)) m passes))

  -- a file that is refused
  pub next_fails : (f : ImageFault) → next_image_of before (bytes file) ≡ Err f
      → images_behind before (map bytes (drop k files)) ≡ Err (length before + 1, f)
  next_fails f fails =
      next_of
      ∙ ap (λ r. or_fault (length before + 1) r (images_behind (before ++ metadata_in (bytes file) ∷ []) (map bytes (drop (k + 1) files))))
      (outcome_of_fault (file_checks before (bytes file)) (metadata_in (bytes file)) (tt {0}) f fails)

  -- the metadata of the files up to this one
  pub one_more : map metadata_in (map bytes (take (k + 1) files)) ≡ map metadata_in (map bytes (take k files)) ++ metadata_in (bytes file) ∷ []
  one_more =
      ap (λ fs. map metadata_in (map bytes fs)) (take_more files k file within ∙ ap (λ f. take k files ++ f ∷ []) is)
      ∙ ap (map metadata_in) (map-append bytes (take k files) (file ∷ []))
      ∙ map-append metadata_in (map bytes (take k files)) (bytes file ∷ [])

-- behind the last file
pub none_behind : {F : Type 0} (bytes : F → List ℕ) (files : List F) (before : List Metadata) (k : ℕ) → length files ≤ k → images_behind before (map bytes (drop k files)) ≡ Ok before
unfolding images_behind
none_behind bytes files before k past = ap (λ fs. images_behind before (map bytes fs)) (drop_all k files past)

pub all_of_them : {F : Type 0} (bytes : F → List ℕ) (files : List F) (k : ℕ) → length files ≤ k → map metadata_in (map bytes (take k files)) ≡ map metadata_in (map bytes files)
all_of_them bytes files k past = ap (λ fs. map metadata_in (map bytes fs)) (take_all k files past)
