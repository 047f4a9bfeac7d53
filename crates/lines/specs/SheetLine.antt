-- A line of the planners' sheet (02, E11): what it holds, its ranges and the order in which they are judged are those of a C line (`row_by`).
use Rattle.std.specs.Prelude.{List, ℕ, ℤ}
use Rattle.text.specs.Line.{Line}
use Rattle.lines.specs.RowKinds.{values_by, bad_by, out_by, row_text_by}
use Rattle.lines.specs.Lines.{RowLine, row_by}
use Rattle.lines.specs.declared.row.RowKind.TheVariants.{Sheet}

unfoldable pub sheet_line : (zones : ℕ) → (line : List ℕ) → (i : ℕ) → Line RowLine
sheet_line zones line i = row_by (bad_by Sheet zones line i) (out_by Sheet line) (values_by Sheet zones line i)

-- a line of the sheet as it is written
abbrev pub sheet_text : (i : ℕ) → (raw factors : List ℤ) → List ℕ
sheet_text = row_text_by Sheet
