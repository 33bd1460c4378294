-- Where memory runs out: behind files that pass all their checks, at one that passes those of headers, streams and tables.
use Rattle.std.proofs.Common.{◌≡◌, ℕ, zero, suc, ◌+◌, ◌<◌, List, [], ◌∷◌, ◌++◌, length, take, Some, Result, Ok, Err, IsOk, Vec, Global, refl, sym, ap, ◌∙◌, subst, get_or}
use Rattle.std.specs.Prelude.{slice_get}
use Rattle.std.specs.Option.{option_map}
use Rattle.std.proofs.lemmas.List.{take_more, take-map, map-append}
use Rattle.std.proofs.lemmas.Option.{slice_get-get_or, slice_get-map}
use Rattle.clr_base.specs.declared.image_fault.ImageFault.{ImageFault}
use Rattle.clr_base.specs.Checks.{Check, after, outcome, first_fault}
use Rattle.clr_base.proofs.Checks.{outcome_append, outcome_value}
use Rattle.cli_tables.specs.Metadata.{Metadata}
use Rattle.image_rows.specs.Image.{metadata_in, image_checks, image_of, place_checks, content_checks, tables_of}
use Rattle.image_files.specs.Counts.{count_checks, totals_of}
use Rattle.image_files.specs.Images.{RanOut, bytes_of_each, file_checks, images_behind, images_of, next_image_of, or_fault, tables_in}
use Rattle.image_files.proofs.ManyImages.{outcome_with}

-- ---- the checks of headers, streams and tables come first

front_only : {X : Type 0} (front : Result (Unit {0}) ImageFault) (behind : Result X ImageFault) (z : X) → after front behind ≡ Ok z → front ≡ Ok (tt {0})
front_only (Ok x) behind z e = refl
front_only (Err f) behind z e = cc

front_passes : {X : Type 0} (a b : List Check) (x z : X) → outcome (a ++ b) x ≡ Ok z → outcome a x ≡ Ok x
front_passes a b x z e = outcome_with a (tt {0}) (tt {0}) x (front_only (first_fault a) (outcome b x) z (sym (outcome_append a b x) ∙ e))

-- where a file passes its own checks, and so where it passes that of the counts too
pub image_placed : (bytes : List ℕ) (m : Metadata) → image_of bytes ≡ Ok m → IsOk (tables_of bytes)
image_placed bytes m e = subst IsOk (sym (front_passes (place_checks bytes) (content_checks (metadata_in bytes)) (metadata_in bytes) m e)) refl

pub next_placed : (before : List Metadata) (bytes : List ℕ) (m : Metadata) → next_image_of before bytes ≡ Ok m → IsOk (tables_of bytes)
unfolding file_checks
next_placed before bytes m e =
    image_placed bytes (metadata_in bytes) (front_passes (image_checks bytes) (count_checks (totals_of (before ++ metadata_in bytes ∷ []))) (metadata_in bytes) m e)

-- and so the first of files that pass
none_before : (number : ℕ) (o : Result (Unit {0}) ImageFault) (behind : Result (List Metadata) (ℕ × ImageFault)) (ms : List Metadata)
    → or_fault number o behind ≡ Ok ms → o ≡ Ok (tt {0})
none_before number (Ok x) behind ms e = refl
none_before number (Err f) behind ms e = cc

first_of : (file : List ℕ) (files : List (List ℕ)) (ms : List Metadata) → images_of (file ∷ files) ≡ Ok ms → IsOk (tables_of file)
unfolding images_behind
first_of file files ms e =
    next_placed [] file (metadata_in file)
    (outcome_with (file_checks [] file) (tt {0}) (tt {0}) (metadata_in file)
    (none_before 1 (first_fault (file_checks [] file)) (images_behind (metadata_in file ∷ []) files) ms e))

-- Where memory runs out, the first file passes its checks of headers, streams and tables.
first_there : (files : List (List ℕ)) (place : ℕ) (file at : List ℕ) → slice_get files place ≡ Some at
    → images_of (take place files) ≡ Ok (tables_in (take place files)) → IsOk (tables_of at) → slice_get files 0 ≡ Some file → IsOk (tables_of file)
first_there [] place file at is passed placed e = cc
first_there (first ∷ rest) zero file at is passed placed e = let same : at ≡ file = cc in subst (λ f. IsOk (tables_of f)) same placed
first_there (first ∷ rest) (suc place) file at is passed placed e =
    let same : first ≡ file = cc in
    subst (λ f. IsOk (tables_of f)) same (first_of first (take place rest) (tables_in (first ∷ take place rest)) passed)

pub first_placed : (files : List (List ℕ)) (file : List ℕ) → RanOut files → slice_get files 0 ≡ Some file → IsOk (tables_of file)
first_placed files file out e = first_there files out.place file out.file out.is out.passed out.placed e

pub first_passed : (files : List (List ℕ)) (file : List ℕ) → images_of files ≡ Ok (tables_in files) → slice_get files 0 ≡ Some file → IsOk (tables_of file)
first_passed [] file passed e = cc
first_passed (first ∷ rest) file passed e =
    let same : first ≡ file = cc in subst (λ f. IsOk (tables_of f)) same (first_of first rest (tables_in (first ∷ rest)) passed)

-- ---- files that pass

pub none_passed : images_of [] ≡ Ok []
unfolding images_behind
none_passed = refl

one_passes : (before : List Metadata) (bytes : List ℕ) (m : Metadata) → next_image_of before bytes ≡ Ok m
    → images_behind before (bytes ∷ []) ≡ Ok (before ++ m ∷ [])
unfolding images_behind
one_passes before bytes m passes =
    ap (λ o. or_fault (length before + 1) o (Ok (before ++ metadata_in bytes ∷ [])))
    (outcome_with (file_checks before bytes) (metadata_in bytes) m (tt {0}) passes)
    ∙ ap (λ (n : Metadata). Ok (before ++ n ∷ [])) (sym (outcome_value (file_checks before bytes) (metadata_in bytes) m passes))

then_passes : (number : ℕ) (o : Result (Unit {0}) ImageFault) (r s : Result (List Metadata) (ℕ × ImageFault)) (ms ns : List Metadata)
    → (r ≡ Ok ms → s ≡ Ok ns) → or_fault number o r ≡ Ok ms → or_fault number o s ≡ Ok ns
then_passes number (Ok x) r s ms ns rest e = rest e
then_passes number (Err f) r s ms ns rest e = cc

passed_more : (before : List Metadata) (files : List (List ℕ)) (ms : List Metadata) (bytes : List ℕ) (m : Metadata)
    → images_behind before files ≡ Ok ms → next_image_of ms bytes ≡ Ok m → images_behind before (files ++ bytes ∷ []) ≡ Ok (ms ++ m ∷ [])
unfolding images_behind
passed_more before [] ms bytes m e passes =
    let same : before ≡ ms = cc in subst (λ b. images_behind b (bytes ∷ []) ≡ Ok (ms ++ m ∷ [])) (sym same) (one_passes ms bytes m passes)
passed_more before (file ∷ files) ms bytes m e passes =
    then_passes (length before + 1) (first_fault (file_checks before file)) (images_behind (before ++ metadata_in file ∷ []) files)
    (images_behind (before ++ metadata_in file ∷ []) (files ++ bytes ∷ [])) ms (ms ++ m ∷ [])
    (λ rest. passed_more (before ++ metadata_in file ∷ []) files ms bytes m rest passes) e

module _ (files : List (Vec ℕ Global)) (k : ℕ) (file : Vec ℕ Global) (images : List Metadata) (within : k < length files) (is : get_or files k file ≡ file)
    (passed : images_of (bytes_of_each (take k files)) ≡ Ok images) where
  -- one file more
  pub passes_on : (m : Metadata) → next_image_of images file.items ≡ Ok m → images_of (bytes_of_each (take (k + 1) files)) ≡ Ok (images ++ m ∷ [])
  passes_on m passes =
      ap (λ fs. images_of (bytes_of_each fs)) (take_more files k file within ∙ ap (λ (f : Vec ℕ Global). take k files ++ f ∷ []) is)
      ∙ ap images_of (map-append (λ (f : Vec ℕ Global). f.items) (take k files) (file ∷ []))
      ∙ passed_more [] (bytes_of_each (take k files)) images file.items m passed passes

  -- the file at which memory runs out
  pub ran_out : images ≡ tables_in (bytes_of_each (take k files)) → IsOk (tables_of file.items) → RanOut (bytes_of_each files)
  ran_out all placed = record {
    place = k;
    file = file.items;
    is =
        slice_get-map (λ (f : Vec ℕ Global). f.items) files k
        ∙ ap (option_map (λ (f : Vec ℕ Global). f.items)) (slice_get-get_or files k file within ∙ ap (λ (f : Vec ℕ Global). Some f) is);
    passed =
        subst (λ fs. images_of fs ≡ Ok (tables_in fs)) (sym (take-map (λ (f : Vec ℕ Global). f.items) k files))
        (passed ∙ ap (λ (ms : List Metadata). Ok ms) all);
    placed = placed;
  }
