-- What a pass keeps after a call that sets words of cells and rows.
use Rattle.std.specs.Prelude.{◌≡◌, ℕ, ◌*◌, ◌<◌, List, ◌++◌}
use Rattle.word_board.specs.Marks.{Has}
use Rattle.word_board.specs.Views.{Grown}
use Rattle.word_board.specs.declared.view.Mark.{Mark}
use Rattle.word_board.specs.declared.view.View.{View}

-- nothing but words of cells and rows was set, and no number changed
abbrev pub Moved : {P : Type 0} → ℕ → View P → View P → Type 0
Moved cells v w = Grown v w × ((ms : List Mark) × (w.kept ≡ v.kept ++ ms) × ((m : Mark) → Has ms m → m.place < 33 * cells))
