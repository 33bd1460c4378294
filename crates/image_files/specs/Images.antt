-- Several files: the metadata of all, or the first fault of the first of them that has one.
use Rattle.std.specs.Prelude.{◌≡◌, ℕ, ◌+◌, List, [], ◌∷◌, ◌++◌, map, length, take, slice_get, Some, Result, Ok, Err, IsOk, Vec}
use Rattle.std.specs.declared.alloc.Global.{Global}
use Rattle.clr_base.specs.declared.image_fault.ImageFault.{ImageFault}
use Rattle.clr_base.specs.Checks.{Check, outcome, first_fault}
use Rattle.cli_tables.specs.Metadata.{Metadata}
use Rattle.image_files.specs.declared.images.ImagesFault.{ImagesFault}
use Rattle.image_files.specs.declared.images.ImagesFault.TheVariants.{Image, Memory}
use Rattle.image_files.specs.Counts.{totals_of, count_checks}
use Rattle.image_rows.specs.Image.{metadata_in, image_checks, tables_of}

-- the bytes of each file
abbrev pub bytes_of_each : List (Vec ℕ Global) → List (List ℕ)
bytes_of_each files = map (λ file. file.items) files

abbrev pub tables_in : List (List ℕ) → List Metadata
tables_in files = map metadata_in files

-- the checks of a file, in order, where the metadata of the files before it is given: its own, and that of all counts so far
unfoldable pub file_checks : List Metadata → List ℕ → List Check
file_checks before bytes = image_checks bytes ++ count_checks (totals_of (before ++ metadata_in bytes ∷ []))

-- its metadata, or its first fault
abbrev pub next_image_of : List Metadata → List ℕ → Result Metadata ImageFault
next_image_of before bytes = outcome (file_checks before bytes) (metadata_in bytes)

-- the fault of the file with a number, or what the files behind it give
abbrev pub or_fault : ℕ → Result (Unit {0}) ImageFault → Result (List Metadata) (ℕ × ImageFault) → Result (List Metadata) (ℕ × ImageFault)
or_fault number (Ok x) behind = behind
or_fault number (Err fault) behind = Err (number, fault)

-- the metadata of some files, and of those behind them
unfoldable pub images_behind : List Metadata → List (List ℕ) → Result (List Metadata) (ℕ × ImageFault)
images_behind before [] = Ok before
images_behind before (bytes ∷ files) =
    or_fault (length before + 1) (first_fault (file_checks before bytes)) (images_behind (before ++ metadata_in bytes ∷ []) files)

-- The metadata of all files, or the number of the first that is refused, counted from 1, with its first fault.
abbrev pub images_of : List (List ℕ) → Result (List Metadata) (ℕ × ImageFault)
images_of files = images_behind [] files

-- The files' metadata is there where the answer is, and the fault is the one that is answered. Want of memory says nothing.
abbrev pub GivesImages : Result (List Metadata) ImagesFault → Result (List Metadata) (ℕ × ImageFault) → Type 0
GivesImages (Ok images) wanted = wanted ≡ Ok images
GivesImages (Err (Image number fault)) wanted = wanted ≡ Err (number, fault)
GivesImages (Err Memory) wanted = Unit {0}

-- Memory ran out at one of the files: those before it pass all their checks, and it passes those of headers, streams and
-- tables, which come first and take no memory.
pub record RanOut (files : List (List ℕ)) : Type 0 where
  pub place : ℕ
  pub file : List ℕ
  pub is : slice_get files place ≡ Some file
  pub passed : images_of (take place files) ≡ Ok (tables_in (take place files))
  pub placed : IsOk (tables_of file)
