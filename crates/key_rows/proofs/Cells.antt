-- The cell of a further row.
use Rattle.std.proofs.Common.{ℕ, ◌<◌, List, Result, Ok, Err, IfOk, arith}
use Rattle.clr_base.specs.declared.failures.TableFull.{TableFull}
use Rattle.word_board.specs.Marks.{mark, Has}
use Rattle.word_board.specs.declared.view.Mark.{Mark}
use Rattle.node_set.specs.Nodes.{word_of}
use Rattle.node_set.specs.declared.node.Node.TheVariants.{Row}
use Rattle.node_set.specs.declared.probing.Cell.{Cell}
use Rattle.key_rows.specs.Rows.{IsRowOf}

module _ (cells : ℕ) (seen : List Mark) (h row : ℕ) where
  pub row_here : (c : ℕ) → h < 16777216 → row < 4294967296 → 0 < row → c < cells × ((by : ℕ) × Has seen (mark c (word_of (Row (record { 0 = h }) row)) by)) → IsRowOf cells seen h row c
  row_here c narrow low further s = (s.0, (λ first. absurd (omega arith)), λ some. (s.0, (narrow, low), s.1))

  pub row_of_cell : (r : Result Cell TableFull) → h < 16777216 → row < 4294967296 → 0 < row
      → IfOk r (λ c. (c.0 < cells) × ((by : ℕ) × Has seen (mark c.0 (word_of (Row (record { 0 = h }) row)) by))) → IfOk r (λ c. IsRowOf cells seen h row c.0)
  row_of_cell (Ok c) narrow low further s = row_here c.0 narrow low further s
  row_of_cell (Err e) narrow low further s = s
