-- Where the words of a board stand: one node word a cell, then one row of 32 words a cell, then the journal.
use Rattle.std.specs.Prelude.{ℕ, ◌+◌, ◌*◌, ◌<◌, ◌≤◌}

abbrev pub place_count : ℕ → ℕ → ℕ
place_count cells journal = 33 * cells + journal

-- the place of word w of the row of cell c
abbrev pub row_place : ℕ → ℕ → ℕ → ℕ
row_place cells c w = cells + 32 * c + w

abbrev pub journal_place : ℕ → ℕ → ℕ
journal_place cells i = 33 * cells + i

-- a place of a row
abbrev pub IsInRows : ℕ → ℕ → Type 0
IsInRows cells place = (cells ≤ place) × (place < 33 * cells)

-- a place of the journal
abbrev pub IsInJournal : ℕ → ℕ → ℕ → Type 0
IsInJournal cells journal place = (33 * cells ≤ place) × (place < place_count cells journal)
