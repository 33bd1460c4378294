-- What is worked out of a draft once.
use Rattle.std.specs.Prelude.{◌≡◌, ℕ, ◌<◌, ◌≤◌, ◌^◌, ◌&&◌, Bool, length, nat_lt}
use Rattle.image_write.specs.declared.draft.Draft.{Draft}
use Rattle.image_write.specs.declared.layout.Layout.{Layout}
use Rattle.image_write.specs.Drafts.{rows, counts, heap_bits}
use Rattle.image_write.specs.Lengths.{tables_len, metadata_len, image_len}

-- what is worked out of a draft with a short image
pub record IsLayout (draft : Draft) (layout : Layout) : Type 0 where
  pub counts : layout.counts ≡ counts draft
  pub heap_bits : layout.heap_bits ≡ heap_bits draft
  pub tables_len : layout.tables_len ≡ tables_len draft
  pub metadata_len : layout.metadata_len ≡ metadata_len draft
  pub short : image_len draft < 2 ^ 31

-- each table has fewer rows than a short image has bytes
abbrev pub HasFewRows : Draft → Type 0
HasFewRows draft = (t : ℕ) → t < 45 → rows draft t < 2 ^ 31

-- some table has more rows
abbrev pub HasManyRows : Draft → Type 0
HasManyRows draft = (t : ℕ) × (t < 45) × (2 ^ 31 ≤ rows draft t)

abbrev pub is_short : Draft → Bool
is_short draft =
    nat_lt (length draft.strings) (2 ^ 31) && nat_lt (length draft.users) (2 ^ 31) && nat_lt (length draft.guids) (2 ^ 31)
    && nat_lt (length draft.blobs) (2 ^ 31) && nat_lt (length draft.bodies) (2 ^ 31)
