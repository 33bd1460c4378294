-- The pieces of a line.
use Rattle.std.specs.Prelude.{ℕ, List, decimal}
use Rattle.std.specs.List.{flat_map}
use Rattle.clr_base.specs.declared.lines.Piece.{Piece}
use Rattle.clr_base.specs.declared.lines.Piece.TheVariants.{Literal, Text, Number}

abbrev pub spelling : Piece → List ℕ
spelling (Literal text) = text.now
spelling (Text text) = text.now
spelling (Number n) = decimal n

abbrev pub line_of : List Piece → List ℕ
line_of pieces = flat_map spelling pieces
