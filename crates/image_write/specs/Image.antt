-- The image of a draft: parts, one behind the other.
use Rattle.std.specs.Prelude.{ℕ, ◌+◌, ◌-◌, List, [], ◌∷◌, ◌++◌, length, Bool, ◌&&◌, ◌||◌, ◌==◌, codes, if◌then◌else◌}
use Rattle.image_write.specs.declared.draft.Draft.{Draft}
use Rattle.image_write.specs.Pieces.{bytes_of, zeros, rounded, padded, filled, field, text_field, structure, joined}
use Rattle.image_write.specs.Drafts.{column_count, rows, has_rows, cell, heap_bits, valid, column_width}
use Rattle.image_write.specs.Lengths.{tables_len, filled_len, metadata_len, section_len}

-- II.24.2.6: the stream `#~`

-- the RVA of a method and of a field's data
abbrev pub is_rva : ℕ → ℕ → Bool
is_rva t c = c == 0 && (t == 0x06 || t == 0x1d)

-- the RVA of the first byte of `bodies`: the section begins at 0x2000, the metadata at 0x2048
abbrev pub bodies_rva : Draft → ℕ
bodies_rva draft = 0x2048 + metadata_len draft

-- the RVA that a cell stands for: 0 is none, else it is an offset in `bodies` plus 1
abbrev pub rva_of : Draft → ℕ → ℕ
rva_of draft v = if v == 0 then 0 else bodies_rva draft + (v - 1)

-- the number that is written for a cell
unfoldable pub written : Draft → ℕ → ℕ → ℕ → ℕ
written draft t r c = if is_rva t c then rva_of draft (cell draft t r c) else cell draft t r c

unfoldable pub cell_bytes : Draft → ℕ → ℕ → ℕ → List ℕ
cell_bytes draft t r c = bytes_of (column_width draft t c) (written draft t r c)

unfoldable pub row_bytes : Draft → ℕ → ℕ → List ℕ
row_bytes draft t r = joined (column_count t) (cell_bytes draft t r)

unfoldable pub table_bytes : Draft → ℕ → List ℕ
table_bytes draft t = joined (rows draft t) (row_bytes draft t)

-- the count of rows, of a table that has rows
unfoldable pub count_bytes : Draft → ℕ → List ℕ
count_bytes draft t = if has_rows draft t then bytes_of 4 (rows draft t) else []

-- versions 2 and 0, HeapSizes, a 1, Valid, and Sorted, which is 0
unfoldable pub tables_header : ℕ → ℕ → List ℕ
tables_header bits mask = structure 0 24 (field 4 1 2 ∷ field 6 1 bits ∷ field 7 1 1 ∷ field 8 8 mask ∷ [])

unfoldable pub tables : Draft → List ℕ
tables draft = tables_header (heap_bits draft) (valid draft) ++ (joined 45 (count_bytes draft) ++ joined 45 (table_bytes draft))

-- II.24.2.1: the metadata root, with its version text

unfoldable pub root : List ℕ
root =
    structure 0 32
    (text_field 0 4 (codes "BSJB")
    ∷ field 4 2 1
    ∷ field 6 2 1
    ∷ field 12 4 12
    ∷ text_field 16 8 (codes "v4.0.303")
    ∷ text_field 24 2 (codes "19")
    ∷ field 30 2 5
    ∷ [])

-- II.24.2.2: the stream headers

-- where a stream begins and how long it is, and its name with the zeros behind it
unfoldable pub stream_header : ℕ → ℕ → List ℕ → List ℕ
stream_header at len name = bytes_of 4 at ++ (bytes_of 4 len ++ name)

-- five streams, the first at 108, each behind the one before
unfoldable pub stream_headers : ℕ → ℕ → ℕ → ℕ → ℕ → List ℕ
stream_headers tables strings users guids blobs =
    stream_header 108 tables (codes "#~" ++ zeros 2)
    ++ (stream_header (108 + tables) strings (codes "#Strings" ++ zeros 4)
    ++ (stream_header (108 + tables + strings) users (codes "#US" ++ zeros 1)
    ++ (stream_header (108 + tables + strings + users) guids (codes "#GUID" ++ zeros 3)
    ++ stream_header (108 + tables + strings + users + guids) blobs (codes "#Blob" ++ zeros 3))))

unfoldable pub headers_of : Draft → List ℕ
headers_of draft =
    stream_headers (rounded (tables_len draft)) (rounded (length draft.strings)) (filled_len (length draft.users))
    (rounded (length draft.guids)) (filled_len (length draft.blobs))

unfoldable pub streams : Draft → List ℕ
streams draft = padded (tables draft) ++ (padded draft.strings ++ (filled draft.users ++ (padded draft.guids ++ filled draft.blobs)))

unfoldable pub metadata : Draft → List ℕ
metadata draft = root ++ (headers_of draft ++ streams draft)

-- II.25.2, II.25.3: the headers of the file, 584 bytes

-- `MZ`, and where the PE signature stands
unfoldable pub dos_header : List ℕ
dos_header = structure 0 64 (text_field 0 2 (codes "MZ") ∷ field 60 4 64 ∷ [])

-- the length of the optional header
abbrev pub optional_len : Bool → ℕ
optional_len plus = if plus then 240 else 224

-- the signature `PE`, the machine, the number of sections, the length of the optional header, characteristics
unfoldable pub file_header : Bool → List ℕ
file_header plus =
    structure 0 24
    (text_field 0 4 (codes "PE") ∷ field 4 2 0x14c ∷ field 6 2 1 ∷ field 20 2 (optional_len plus) ∷ field 22 2 0x2102 ∷ [])

-- where the data directories begin in it
abbrev pub directories : Bool → ℕ
directories plus = if plus then 112 else 96

-- the magic number, the alignment of sections and of the file, 16 data directories, and directory 14: the CLI header
unfoldable pub optional_header : Bool → List ℕ
optional_header plus =
    structure 0 (optional_len plus)
    (field 0 2 (if plus then 0x20b else 0x10b)
    ∷ field 32 4 0x2000
    ∷ field 36 4 0x200
    ∷ field (directories plus - 4) 4 16
    ∷ field (directories plus + 112) 4 0x2000
    ∷ field (directories plus + 116) 4 72
    ∷ [])

-- the section: its length, RVA, length in the file and place in the file; zeros follow up to this place
unfoldable pub section_header : Bool → ℕ → List ℕ
section_header plus len =
    structure 0 (424 - optional_len plus)
    (text_field 0 8 (codes ".text") ∷ field 8 4 len ∷ field 12 4 0x2000 ∷ field 16 4 len ∷ field 20 4 0x200 ∷ [])

-- its length, its version, the RVA and the length of the metadata, and the flag of a file that holds only CIL
unfoldable pub cli_header : ℕ → List ℕ
cli_header len =
    structure 0 72 (field 0 4 72 ∷ field 4 2 2 ∷ field 6 2 5 ∷ field 8 4 0x2048 ∷ field 12 4 len ∷ field 16 4 1 ∷ [])

unfoldable pub file_headers : Bool → ℕ → ℕ → List ℕ
file_headers plus section_len metadata_len =
    dos_header ++ (file_header plus ++ (optional_header plus ++ (section_header plus section_len ++ cli_header metadata_len)))

-- the headers, the metadata, whose length is a multiple of 4, and the bodies
unfoldable pub image_of : Draft → List ℕ
image_of draft = file_headers draft.plus (section_len draft) (metadata_len draft) ++ (metadata draft ++ draft.bodies)
