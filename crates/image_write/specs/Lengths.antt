-- How long the parts of an image are, in bytes.
use Rattle.std.specs.Prelude.{ℕ, ◌+◌, ◌*◌, length, ◌==◌, if◌then◌else◌}
use Rattle.cli_tables.specs.Layout.{one_if, sum_below}
use Rattle.image_write.specs.declared.draft.Draft.{Draft}
use Rattle.image_write.specs.Pieces.{rounded}
use Rattle.image_write.specs.Drafts.{rows, has_rows, row_len}

-- how many of the tables below n have rows
unfoldable pub present_below : Draft → ℕ → ℕ
present_below draft n = sum_below (λ t. one_if (has_rows draft t)) n

-- the length of the rows of these tables
unfoldable pub rows_len_below : Draft → ℕ → ℕ
rows_len_below draft n = sum_below (λ t. rows draft t * row_len draft t) n

-- the content of `#~`: 24 bytes, a count of 4 bytes for each table with rows, and the rows
unfoldable pub tables_len : Draft → ℕ
tables_len draft = 24 + 4 * present_below draft 45 + rows_len_below draft 45

-- a heap that is never empty
unfoldable pub filled_len : ℕ → ℕ
filled_len n = if n == 0 then 4 else rounded n

-- the metadata: 32 bytes of the root, 76 of stream headers, and the streams
unfoldable pub metadata_len : Draft → ℕ
metadata_len draft =
    108 + rounded (tables_len draft) + rounded (length draft.strings) + filled_len (length draft.users)
    + rounded (length draft.guids) + filled_len (length draft.blobs)

-- the one section: the CLI header, the metadata and the bodies
abbrev pub section_len : Draft → ℕ
section_len draft = 72 + metadata_len draft + length draft.bodies

-- the section stands behind 512 bytes of headers
abbrev pub image_len : Draft → ℕ
image_len draft = 512 + section_len draft
