-- The corner sheets that a program prints for a table's text and a correction sheet (02, E1, E2), row by row.
use Rattle.std.specs.Prelude.{cond, List, ℕ, leb, Ok}
use Rattle.refusals.specs.Refusals.{then}
use Rattle.types.specs.declared.Header.{Header}
use Rattle.text.specs.Written.{lines_text}
use Rattle.tablerules.specs.Table.{Table}
use Rattle.reading.specs.Reading.{read_corrected}
use Rattle.cornerrules.specs.Corners.{sheet_borders_most, judge_corner_sheet}
use Rattle.cornertext.specs.CornerText.{sheet_text, sheet_text_of}
use Rattle.output.specs.Buffer.{told_text}

-- what is printed at once: a row's corner sheet, or one line E
unfoldable pub sheet_at : Table → (row : ℕ) → List ℕ
sheet_at t row = told_text (sheet_text_of (judge_corner_sheet t row) row)

-- for how many rows a sheet is printed: where the table has none, one E line stands for all
abbrev pub sheet_rows : Header → ℕ
sheet_rows h = cond (leb h.borders sheet_borders_most) h.rows 1

-- what `corners` prints for a row of the table of a text
unfoldable pub one_sheet : (text sheet : List ℕ) → (row : ℕ) → List ℕ
one_sheet text sheet row = told_text (then (read_corrected text sheet) (λ t. sheet_text_of (judge_corner_sheet t row) row))

-- what `corners` prints for all rows, one after another: each table has a row 0, so that only its border count can be refused
unfoldable pub every_sheet : (text sheet : List ℕ) → List ℕ
every_sheet text sheet = told_text (then (read_corrected text sheet) (λ t. then (judge_corner_sheet t 0) (λ t. Ok (lines_text t.header.rows 0 (sheet_text t)))))
