-- What is told of keys: their records, and the keys that they depend on.
use Rattle.std.specs.Prelude.{◌≡◌, ℕ, ◌*◌, ◌<◌, ◌≤◌, ◌⊎◌, List, length, Contains, slice_get, Some}
use Rattle.type_record.specs.declared.entry.Entry.{Entry}
use Rattle.type_record.specs.declared.loaded.TypeRecord.{TypeRecord}
use Rattle.type_record.specs.Records.{entries}
use Rattle.type_record.specs.Sections.{interfaces_at, fields_at}
use Rattle.node_set.specs.Keys.{Key}

pub record Facts : Type 0 where
  pub record_of : Key → TypeRecord Key
  -- the keys that have level 2 before a key has level 3
  pub direct : Key → List Key
  -- the keys that are loaded with a key
  pub closure : Key → List Key

-- a key is in its closure, and so is each key that a key of the closure depends on, or that its record names
pub record IsClosed (facts : Facts) : Type 0 where
  pub own : (root : Key) → Contains (facts.closure root) root
  pub direct : (root k d : Key) → Contains (facts.closure root) k → Contains (facts.direct k) d → Contains (facts.closure root) d
  pub names : (root k t : Key) (w : ℕ) (e : Entry Key) → Contains (facts.closure root) k → slice_get (entries (facts.record_of k)) w ≡ Some e → e.key ≡ Some t → Contains (facts.closure root) t

module _ (facts : Facts) where
  -- the word w of the key's record tells this
  abbrev pub Tells : Key → ℕ → Entry Key → Type 0
  Tells k w e = slice_get (entries (facts.record_of k)) w ≡ Some e

  -- the key's record has words in this row, of which each has 32
  abbrev pub HasRow : Key → ℕ → Type 0
  HasRow k row = 32 * row < length (entries (facts.record_of k))

  -- the words that level 1 asks for: canonical form, element and arguments
  abbrev pub IsApproximate : Key → ℕ → Type 0
  IsApproximate k w = (w ≡ 0) ⊎ ((w ≡ 2) ⊎ ((8 ≤ w) × (w < interfaces_at (facts.record_of k).shape)))

  -- those of level 2: also the exact parent and interfaces
  abbrev pub IsExact : Key → ℕ → Type 0
  IsExact k w = IsApproximate k w ⊎ ((w ≡ 1) ⊎ ((interfaces_at (facts.record_of k).shape ≤ w) × (w < fields_at (facts.record_of k).shape)))

-- the words 4 to 7 of a record have its levels 1 to 4
abbrev pub IsLevelWord : ℕ → Type 0
IsLevelWord w = (4 ≤ w) × (w < 8)

abbrev pub IsOtherWord : ℕ → Type 0
IsOtherWord w = ¬ IsLevelWord w
