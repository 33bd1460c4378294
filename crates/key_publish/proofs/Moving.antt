-- What a pass that moved has.
use Rattle.std.proofs.Common.{◌≡◌, ℕ, ◌*◌, ◌<◌, List, [], ◌∷◌, ◌++◌, sym, ap, ◌∙◌, subst, ⊎_elim, append-nil, append_assoc}
use Rattle.word_board.specs.Marks.{mark}
use Rattle.word_board.specs.Views.{Grown, KeepsOne, number_of}
use Rattle.word_board.specs.declared.view.Mark.{Mark}
use Rattle.word_board.specs.declared.view.View.{View}
use Rattle.word_board.proofs.Lists.{has_append}
use Rattle.word_board.proofs.Growing.{grown_same, grown_on}
use Rattle.key_publish.specs.Moving.{Moved}

module _ {P : Type 0} (cells : ℕ) where
  pub kept_as_was : (v w : View P) → Grown v w → w.kept ≡ v.kept → Moved cells v w
  kept_as_was v w g e = (g, ([], e ∙ sym (append-nil v.kept), λ m h. absurd h))

  pub moved_same : (v w : View P) → w ≡ v → Moved cells v w
  moved_same v w e = kept_as_was v w (grown_same v w e) (ap (λ (u : View P). u.kept) e)

  -- one word was set, or none
  pub moved_one : (v w : View P) (place word : ℕ) → place < 33 * cells → Grown v w → KeepsOne v w place word → Moved cells v w
  moved_one v w place word low g kept = ⊎_elim (kept_as_was v w g)
      (λ e. (g, (mark place word (number_of v) ∷ [], e, λ m h. ⊎_elim (λ (is : mark place word (number_of v) ≡ m). subst (λ (x : Mark). x.place < 33 * cells) is low) (λ t. absurd t) h)))
      kept

  pub moved_on : (u v w : View P) → Moved cells u v → Moved cells v w → Moved cells u w
  moved_on u v w a b = (
    grown_on u v w a.0 b.0,
    (
      a.1.0 ++ b.1.0,
      b.1.1 ∙ (ap (λ (l : List Mark). l ++ b.1.0) a.1.1 ∙ append_assoc u.kept a.1.0 b.1.0),
      λ m h. ⊎_elim (a.1.2 m) (b.1.2 m) (has_append a.1.0 b.1.0 m h),
    ),
  )
