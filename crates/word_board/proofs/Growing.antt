-- What a pass has after it saw or set a word.
use Rattle.std.proofs.Common.{◌≡◌, [], ◌∷◌, ◌++◌, sym, refl, ◌∙◌, subst, inl}
use Rattle.word_board.specs.Marks.{Has}
use Rattle.word_board.specs.Views.{Grown, seeing, setting}
use Rattle.word_board.specs.declared.view.Mark.{Mark}
use Rattle.word_board.specs.declared.view.View.{View}
use Rattle.word_board.proofs.Lists.{has_right, within_more}

module _ {P : Type 0} where
  abbrev Saw : View P → View P → Mark → Type 0
  Saw v w m = Has w.seen m × Grown v w × (w.kept ≡ v.kept)

  abbrev Did : View P → View P → Mark → Type 0
  Did v w m = Has w.seen m × Grown v w × (w.kept ≡ v.kept ++ m ∷ [])

  pub sees : (v w : View P) (m : Mark) → w ≡ seeing v m → Saw v w m
  sees v w m e = subst (λ (u : View P). Saw v u m) (sym e) (has_right v.seen (m ∷ []) m (inl refl), (within_more v.seen (m ∷ []), refl, refl, refl, refl), refl)

  pub sets : (v w : View P) (m : Mark) → w ≡ setting v m → Did v w m
  sets v w m e = subst (λ (u : View P). Did v u m) (sym e) (has_right v.seen (m ∷ []) m (inl refl), (within_more v.seen (m ∷ []), refl, refl, refl, refl), refl)

  pub grown_same : (v w : View P) → w ≡ v → Grown v w
  grown_same v w e = subst (λ (u : View P). Grown v u) (sym e) ((λ m h. h), refl, refl, refl, refl)

  pub grown_on : (u v w : View P) → Grown u v → Grown v w → Grown u w
  grown_on u v w a b = ((λ m h. b.0 m (a.0 m h)), b.1 ∙ a.1, b.2 ∙ a.2, b.3 ∙ a.3, b.4 ∙ a.4)
