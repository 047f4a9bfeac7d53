-- One row's corner sheet as text (02, E1), and what the open call `corner_text` leaves.
use Rattle.std.specs.Prelude.{List, [], ◌∷◌, ℕ, ◌+◌, ◌*◌, ◌^◌, ℤ, pos, length, Ok}
use Prim.Native.Char.{code}
use Rattle.refusals.specs.Refusals.{Judged, then}
use Rattle.types.specs.LineColumns.{Column, number, signed}
use Rattle.types.specs.Ranges.{at_ℤ}
use Rattle.text.specs.Fields.{tab}
use Rattle.text.specs.Left.{TextLeft, text_left}
use Rattle.text.specs.Written.{lines_text}
use Rattle.columns.specs.declared.Head.TheVariants.{Indexed}
use Rattle.columns.specs.ColumnText.{columns_text}
use Rattle.tablerules.specs.Table.{Table, factors_at}
use Rattle.cornerrules.specs.Corners.{sheet_borders_most, flows_of, judge_corners}

-- a sheet has at most so many corners
abbrev pub sheet_most : ℕ
sheet_most = 2 ^ sheet_borders_most

-- the columns of a K line after its row
abbrev pub corner_columns : List Column
corner_columns =
    number  -- corner
    ∷ signed  -- flow, grains
    ∷ []

-- `K`, row, corner number, signed flow
abbrev pub corner_line : (row corner : ℕ) → (flow : ℤ) → List ℕ
corner_line row corner flow = columns_text tab (Indexed (code "K") row) corner_columns (pos corner ∷ flow ∷ [])

-- no K line is longer: letter, tabs and LF, and three machine numbers of at most 20 bytes each
abbrev pub line_most : ℕ
line_most = 5 + 3 * 20

abbrev pub corner_line_at : (row : ℕ) → (flows : List ℤ) → (corner : ℕ) → List ℕ
corner_line_at row flows corner = corner_line row corner (at_ℤ flows corner)

-- a line for each corner, numbers rising from 0
unfoldable pub corners_text : (row : ℕ) → (flows : List ℤ) → List ℕ
corners_text row flows = lines_text (length flows) 0 (corner_line_at row flows)

-- a row's sheet as text
abbrev pub sheet_text : Table → (row : ℕ) → List ℕ
sheet_text t row = corners_text row (flows_of (factors_at t row) t.borders)

-- a row's sheet as text, where the table was judged to have one
abbrev pub sheet_text_of : (judged : Judged Table) → (row : ℕ) → Judged (List ℕ)
sheet_text_of judged row = then judged (λ t. Ok (sheet_text t row))

-- refusals as for the flows, then room for the bytes of the text
unfoldable pub corner_text_left : (given : Table) → (row : ℕ) → (out : List ℕ) → TextLeft
corner_text_left given row out = text_left (sheet_text_of (judge_corners given row) row) out
