-- One word of a record: a number, and at most one handle.
use Rattle.std.specs.Prelude.{ℕ, ◌+◌, ◌*◌, ◌<◌, Option, None, Some, IfSome}
use Rattle.clr_base.specs.declared.ids.Handle.{Handle}
use Rattle.type_record.specs.declared.entry.Entry.{Entry}

-- the word of a number, and of 0 without a handle, else of the handle plus 1
abbrev pub row_word : ℕ → ℕ → ℕ
row_word number at = 1 + at + 524288 * number

abbrev pub at_of : Option Handle → ℕ
at_of None = 0
at_of (Some h) = h.0 + 1

abbrev pub word_of : Entry Handle → ℕ
word_of e = row_word e.number (at_of e.key)

-- a handle is the number of a cell, of which a board has at most 262,144
abbrev pub IsHandle : Handle → Type 0
IsHandle h = h.0 < 262144

-- a word has room for the number, and for the handle
abbrev pub FitsWord : Entry Handle → Type 0
FitsWord e = (e.number < 35184372088832) × IfSome e.key IsHandle
