-- The words of levels.
use Rattle.std.proofs.Common.{◌≡◌, ℕ, zero, suc, ◌+◌, ◌/◌, ◌<◌, ◌≤◌, List, slice_get, Option, None, Some, refl, ◌∙◌, arith}
use Rattle.clr_base.specs.declared.ids.Handle.{Handle}
use Rattle.word_board.specs.declared.view.Mark.{Mark}
use Rattle.node_set.specs.Keys.{Key, Spells}
use Rattle.node_set.proofs.Spelling.{spells_inside}
use Rattle.type_record.specs.declared.loaded.TypeRecord.{TypeRecord}
use Rattle.type_record.specs.Words.{row_word, at_of}
use Rattle.type_record.specs.Records.{entries, entry}
use Rattle.key_rows.specs.Rows.{IsRowOf, SpellsOptional, IsWordOf}

-- a record has its levels at the words 4 to 7
pub level_tells : {K : Type 0} (r : TypeRecord K) (n : ℕ) → n < 4 → slice_get (entries r) (4 + n) ≡ Some (entry (n + 1) None)
unfolding entries
level_tells r zero low = refl
level_tells r (suc zero) low = refl
level_tells r (suc (suc zero)) low = refl
level_tells r (suc (suc (suc zero))) low = refl
level_tells r (suc (suc (suc (suc n)))) low = absurd (omega arith)

module _ (cells : ℕ) (all : List Mark) where
  -- they lie in the key's own row
  pub level_row : (h : ℕ) (k : Key) (level : ℕ) → level ≤ 4 → Spells cells all h k → IsRowOf cells all h ((3 + level) / 32) h
  level_row h k level few s = (spells_inside cells all h k s, (λ e. refl), λ further. absurd (omega arith))

  none_spelled : (h : Option Handle) → SpellsOptional cells all h None → at_of h ≡ 0
  none_spelled None s = refl
  none_spelled (Some h) s = absurd s

  -- an entry with a number alone has one word
  pub level_word : (level word : ℕ) → IsWordOf cells all (entry level None) word → word ≡ row_word level 0
  level_word level word is = is.3 ∙ (λ i. row_word (is.2.0 i) (none_spelled is.0.key is.2.1 i))
