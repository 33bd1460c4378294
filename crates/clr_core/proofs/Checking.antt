-- What comes of files that were checked: their text, or the number of the one that is refused.
use Rattle.std.proofs.Common.{◌≡◌, ℕ, ◌+◌, ◌-◌, ◌≤◌, ◌⊎◌, inl, inr, List, [], ◌∷◌, ◌++◌, length, Option, Some, Result, Ok, Err, sym, ap, ◌∙◌, subst, arith, length-append, unwrap_or}
use Rattle.std.specs.Prelude.{slice_get}
use Rattle.clr_base.specs.declared.image_fault.ImageFault.{ImageFault}
use Rattle.clr_base.specs.Checks.{first_fault}
use Rattle.cli_tables.specs.Metadata.{Metadata}
use Rattle.image_rows.specs.Image.{metadata_in}
use Rattle.image_files.specs.Images.{GivesImages, file_checks, images_behind, images_of, or_fault}
use Rattle.image_files.specs.declared.images.ImagesFault.{ImagesFault}
use Rattle.image_files.specs.declared.images.ImagesFault.TheVariants.{Image}
use Rattle.clr_core.specs.Command.{named_files}
use Rattle.clr_core.specs.Ends.{Run, End, Done, Usage, ReadFault, BadImage, WriteFault, Memory, Happened, IsUntouched, StopsChecks, StopsFetch, Judged}
use Rattle.clr_core.specs.Fetched.{AreFiles, IsCalm}
use Rattle.clr_core.specs.Names.{names_of, names_text, text_or_fault}

-- the fault that is answered is the one of the checks
pub given_image : (x : ImagesFault) (number : ℕ) (fault : ImageFault) (files : List (List ℕ)) → x ≡ Image number fault
    → GivesImages (Err x) (images_of files) → images_of files ≡ Err (number, fault)
given_image x number fault files is gives = subst (λ r. GivesImages (Err r) (images_of files)) is gives

-- the number of a file that is refused is that of one of them
refused_here : (here number : ℕ) (o : Result (Unit {0}) ImageFault) (behind : Result (List Metadata) (ℕ × ImageFault)) (fault : ImageFault)
    → or_fault here o behind ≡ Err (number, fault) → (here ≡ number) ⊎ (behind ≡ Err (number, fault))
refused_here here number (Ok x) behind fault e = inr e
refused_here here number (Err f) behind fault e =
    let same : (here, f) ≡ (number, fault) = cc in
    inl (ap (λ (p : ℕ × ImageFault). p.0) same)

numbered : (before : List Metadata) (files : List (List ℕ)) (number : ℕ) (fault : ImageFault) → images_behind before files ≡ Err (number, fault)
    → (length before + 1 ≤ number) × (number ≤ length before + length files)
unfolding images_behind
numbered before [] number fault e = cc
numbered before (bytes ∷ files) number fault e =
    elim (refused_here (length before + 1) number (first_fault (file_checks before bytes)) (images_behind (before ++ metadata_in bytes ∷ []) files) fault e) [
      | inl here ↦ (omega arith, omega arith)
      | inr behind ↦
          let count = length-append before (metadata_in bytes ∷ []) in
          let within = numbered (before ++ metadata_in bytes ∷ []) files number fault behind in
          (omega (arith, within.0), omega (arith, within.1))
    ]

pub number_within : (files : List (List ℕ)) (number : ℕ) (fault : ImageFault) → images_of files ≡ Err (number, fault)
    → (1 ≤ number) × (number ≤ length files)
number_within files number fault e = let within = numbered [] files number fault e in (omega (arith, within.0), omega (arith, within.1))

-- what is written of files that are read, and of files of which one is refused
pub files_text : (names files : List (List ℕ)) (images : List Metadata) (text : List ℕ) → images_of files ≡ Ok images → text ≡ names_text names images
    → names_of names files ≡ Ok text
files_text names files images text e is = ap (text_or_fault names) e ∙ ap (λ (t : List ℕ). Ok t) (sym is)

pub files_fault : (names files : List (List ℕ)) (number : ℕ) (fault : ImageFault) → images_of files ≡ Err (number, fault)
    → names_of names files ≡ Err (number, fault)
files_fault names files number fault e = ap (text_or_fault names) e

-- the text of a run that comes to its write, of bytes that were read through a reference
pub reports : (run : Run) (names bytes read : List (List ℕ)) (text made : List ℕ) → named_files run.words ≡ Some names → AreFiles run.shelf.before names bytes
    → IsCalm run.shelf (length names) (length names) → read ≡ bytes → names_of names read ≡ Ok text → made ≡ text → Judged run (Ok made)
reports run names bytes read text made named told calm same answers is = record {
  files = names;
  named = named;
  bytes = bytes;
  told = told;
  calm = calm;
  answers = ap (names_of names) (sym same) ∙ answers ∙ ap (λ (t : List ℕ). Ok t) (sym is);
}

-- how a run ends whose files weren't all fetched
pub fetch_stopped : (run : Run) (names : List (List ℕ)) (end : End) → named_files run.words ≡ Some names → StopsFetch run.shelf names end
    → IsUntouched run.out → Happened run end
fetch_stopped run names Done named stops untouched = absurd stops
fetch_stopped run names Usage named stops untouched = absurd stops
fetch_stopped run names (ReadFault file) named stops untouched = (record { files = names; named = named; fails = stops }, untouched)
fetch_stopped run names (BadImage file fault) named stops untouched = absurd stops
fetch_stopped run names WriteFault named stops untouched = absurd stops
fetch_stopped run names Memory named stops untouched = (record { files = names; named = named; cause = inl stops }, untouched)

-- and one whose files have no text
pub checks_stopped : (run : Run) (names bytes : List (List ℕ)) (end : End) → named_files run.words ≡ Some names → AreFiles run.shelf.before names bytes
    → IsCalm run.shelf (length names) (length names) → StopsChecks names bytes end → IsUntouched run.out → Happened run end
checks_stopped run names bytes Done named told calm stops untouched = absurd stops
checks_stopped run names bytes Usage named told calm stops untouched = absurd stops
checks_stopped run names bytes (ReadFault file) named told calm stops untouched = absurd stops
checks_stopped run names bytes (BadImage file fault) named told calm stops untouched = (
  record {
    number = stops.0;
    judged = record { files = names; named = named; bytes = bytes; told = told; calm = calm; answers = stops.1 };
    word =
        ap (λ (files : Option (List (List ℕ))). unwrap_or (slice_get (unwrap_or files []) (stops.0 - 1)) []) named
        ∙ ap (λ (file : Option (List ℕ)). unwrap_or file []) stops.2;
  },
  untouched,
)
checks_stopped run names bytes WriteFault named told calm stops untouched = absurd stops
checks_stopped run names bytes Memory named told calm stops untouched =
    (record { files = names; named = named; cause = inr (record { bytes = bytes; told = told; calm = calm; place = stops }) }, untouched)
