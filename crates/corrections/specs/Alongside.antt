-- The sheet walked along with the day's text, row by row: the sheet's next line is all that a row has to look at, since indices rise.
use Rattle.std.specs.Prelude.{cond, List, ℕ, ◌+◌, length}
use Rattle.lines.specs.declared.row.RowKind.{RowKind}
use Rattle.corrections.specs.Corrections.{Piece, piece, of_row}

-- row i's line, of the sheet's next line and the day's
abbrev pub line_for : (kind : RowKind) → (next day : List ℕ) → (i : ℕ) → List ℕ
line_for kind next day i = cond (of_row kind next i) next day

-- the same with its kind
abbrev pub piece_for : (kind : RowKind) → (next : List ℕ) → (day : Piece) → (i : ℕ) → Piece
piece_for kind next day i = cond (of_row kind next i) (piece kind next) day

-- the place of the sheet's next line after row i, where it was at place s
abbrev pub sheet_after : (kind : RowKind) → (next : List ℕ) → (s i : ℕ) → ℕ
sheet_after kind next s i = cond (of_row kind next i) (s + length next) s
