-- What the code answers of a row's line, of either kind: a C line of the table, or a line of the planners' sheet (02, E11).
-- Promises are stated through `judged_of`, `said_row` and `line_by`.
use Rattle.std.specs.Prelude.{List, ℕ, ℤ, Result, Ok, Err}
use Rattle.text.specs.Line.{Line}
use Rattle.lines.specs.Lines.{RowLine, row, row_line}
use Rattle.lines.specs.SheetLine.{sheet_line}
use Rattle.lines.specs.declared.row.RowKind.{RowKind}
use Rattle.lines.specs.declared.row.RowKind.TheVariants.{Table, Sheet}
use Rattle.text.specs.declared.LineFault.{LineFault}

-- what judging a line answers
abbrev pub judged_of : Line RowLine → Result (Unit {0}) LineFault
judged_of (Ok c) = Ok tt
judged_of (Err bad) = Err bad

-- what reading a row's line says, with the factors that were stored; where the line holds no row, what was stored says nothing
abbrev pub said_row : Result (List ℤ) LineFault → (factors : List ℤ) → Line RowLine
said_row (Ok raw) factors = Ok (row raw factors)
said_row (Err bad) factors = Err bad

-- a line by its kind
abbrev pub line_by : RowKind → (zones : ℕ) → (line : List ℕ) → (i : ℕ) → Line RowLine
line_by Table = row_line
line_by Sheet = sheet_line
