-- What is read of an image that was written.
use Rattle.std.specs.Prelude.{◌≡◌, ℕ, ◌+◌, ◌-◌, ◌<◌, List, drop, length, slice_range, Some, Ok}
use Rattle.std.specs.Option.{option_map}
use Rattle.pe_image.specs.declared.locate.Places.{Places}
use Rattle.pe_image.specs.Metadata.{metadata_of}
use Rattle.pe_image.specs.Sections.{place_of}
use Rattle.cli_tables.specs.Metadata.{Metadata, read_of}
use Rattle.cli_tables.specs.Layout.{row_count, cell as cell_of}
use Rattle.image_write.specs.declared.draft.Draft.{Draft}
use Rattle.image_write.specs.Pieces.{padded, filled}
use Rattle.image_write.specs.Drafts.{column_count, rows}
use Rattle.image_write.specs.Image.{tables, written, bodies_rva, optional_len}
use Rattle.image_write.specs.Lengths.{metadata_len}

-- where the headers say that the metadata is
abbrev pub places_of : Draft → Places
places_of draft = record { meta_start = 584; meta_len = metadata_len draft; sections_at = 88 + optional_len draft.plus; section_count = 1 }

-- the contents of the streams: the heaps are the draft's, padded
abbrev pub contents_of : Draft → Metadata
contents_of draft = record { tables = padded (tables draft); strings = padded draft.strings; users = filled draft.users; blobs = filled draft.blobs }

-- The headers tell where the metadata is. It is read with the draft's heaps, counts of rows and cells: a cell is the
-- number that was written for it, rows count from 1 and columns from 0. At the RVA of each byte of `bodies` stand the
-- draft's bodies from that byte on.
pub record ReadsBack (draft : Draft) (image : List ℕ) : Type 0 where
  pub found : metadata_of image ≡ Ok (places_of draft)
  pub read : read_of (slice_range image (places_of draft).meta_start ((places_of draft).meta_start + (places_of draft).meta_len)) ≡ Ok (contents_of draft)
  pub counts : (t : ℕ) → t < 45 → row_count (contents_of draft).tables t ≡ rows draft t
  pub cells : (t r c : ℕ) → t < 45 → r < rows draft t → c < column_count t → cell_of (contents_of draft).tables t (r + 1) c ≡ written draft t r c
  pub bodies : (k : ℕ) → k < length draft.bodies
      → option_map (λ place. drop place image) (place_of image (bodies_rva draft + k) (length draft.bodies - k)) ≡ Some (drop k draft.bodies)
