-- What `names` writes of files.
use Rattle.std.specs.Prelude.{ℕ, List, ◌++◌, map, codes, Result, Ok, Err}
use Rattle.std.specs.List.{flat_map, zip}
use Rattle.clr_base.specs.declared.image_fault.ImageFault.{ImageFault}
use Rattle.cli_tables.specs.Metadata.{Metadata}
use Rattle.image_rows.specs.Cells.{rows_of}
use Rattle.image_files.specs.Images.{images_of}
use Rattle.image_rows.specs.TypeNames.{full_name}

-- a full name on a line of its own
unfoldable pub name_line : List ℕ → List ℕ
name_line name = codes "  " ++ name ++ codes "\n"

-- a file's word, then full names, each on a line of its own
unfoldable pub file_text : List ℕ → List (List ℕ) → List ℕ
file_text file names = file ++ codes "\n" ++ flat_map name_line names

-- the full names of the type definitions of a file (ECMA-335 II.22.37), row by row
abbrev pub type_names : Metadata → List (List ℕ)
type_names m = map (full_name m) (rows_of m 0x02)

-- the text of files in order: of the word and the type definitions of each
unfoldable pub names_text : List (List ℕ) → List Metadata → List ℕ
names_text files images = flat_map (λ file. file_text file.0 (type_names file.1)) (zip files images)

-- the text of files that are read, or what refuses one of them
abbrev pub text_or_fault : List (List ℕ) → Result (List Metadata) (ℕ × ImageFault) → Result (List ℕ) (ℕ × ImageFault)
text_or_fault files (Ok images) = Ok (names_text files images)
text_or_fault files (Err refusal) = Err refusal

-- What is written of files of these names and these bytes, or the number of the first that is refused, from 1, with its
-- first fault.
abbrev pub names_of : List (List ℕ) → List (List ℕ) → Result (List ℕ) (ℕ × ImageFault)
names_of files bytes = text_or_fault files (images_of bytes)
