-- What a pass knows of handles: what holds in each lawful board that has all that it has seen.
use Rattle.std.specs.Prelude.{◌≡◌, ℕ, ◌<◌, List, Option, None, Some}
use Rattle.word_board.specs.Marks.{Within, Lawful}
use Rattle.word_board.specs.declared.view.Mark.{Mark}
use Rattle.clr_base.specs.declared.ids.Handle.{Handle}
use Rattle.node_set.specs.Keys.{Key, Spells}
use Rattle.type_record.specs.declared.entry.Entry.{Entry}
use Rattle.key_rows.specs.Facts.{Facts}
use Rattle.key_rows.specs.Rows.{LevelSet, IsLoaded}

module _ (may : List Mark → Mark → Type 0) (cells : ℕ) (seen : List Mark) where
  -- the handle spells the key
  abbrev pub Names : ℕ → Key → Type 0
  Names h k = (all : List Mark) → Lawful may all → Within seen all → Spells cells all h k

  -- the key has the level
  abbrev pub KnowsLevel : ℕ → Key → Type 0
  KnowsLevel level k = (all : List Mark) → Lawful may all → Within seen all → LevelSet cells all level k

  module _ (facts : Facts) where
    -- the pass knows the handle, a cell's: it spells the key, which is in the closure of a loaded one
    abbrev pub Knows : ℕ → Key → Type 0
    Knows h k = (h < cells) × ((all : List Mark) → Lawful may all → Within seen all → Spells cells all h k × IsLoaded cells all facts k)

    -- it knows the key's handle, if there is one
    abbrev pub KnowsOptional : Option Handle → Option Key → Type 0
    KnowsOptional None None = Unit {0}
    KnowsOptional None (Some k) = ⊥
    KnowsOptional (Some h) None = ⊥
    KnowsOptional (Some h) (Some k) = Knows h.0 k

    -- the same number, and the handle of the key, which it knows
    abbrev pub KnowsEntry : Entry Handle → Entry Key → Type 0
    KnowsEntry told e = (told.number ≡ e.number) × KnowsOptional told.key e.key
