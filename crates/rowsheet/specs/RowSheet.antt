-- The planners' sheet (02, E11): all rows of the table's header, in index order, one LF after each; and what the open calls `read_rows` and `write_rows` leave.
-- `read_rows_left` and `write_rows_left` are what their contracts cite. Lines of the sheet count from 1.
use Rattle.std.specs.Prelude.{cond, not, List, [], ℕ, ◌+◌, ◌*◌, ltb, ℤ, length, get_or, take, Err, Ok}
use Rattle.numbers.specs.Below.{over}
use Rattle.limits.specs.Limits.{bytes_most}
use Rattle.refusals.specs.Answers.{said_judgement}
use Rattle.refusals.specs.Refusals.{Judged, then, either, unless, refuse_first, need, too_long, wrong_form, out_of_range, Ruling}
use Rattle.types.specs.declared.Header.{Header}
use Rattle.types.specs.Ranges.{header_fits}
use Rattle.text.specs.Left.{TextLeft, text_left}
use Rattle.sections.specs.Section.{Section, lines_at, with_lines}
use Rattle.tablerules.specs.Table.{row_good, stretch, header_line_no}
use Rattle.lines.specs.Lines.{RowLine}
use Rattle.rowlines.specs.Rows.{values_of, factors_of}
use Rattle.lines.specs.SheetLine.{sheet_line}
use Rattle.lines.specs.declared.row.RowKind.TheVariants as row_kind
use Rattle.layout.specs.Layout.{rows_text_by}

-- the rows of a table: their raw records, and their factors, each row's after the one before
pub record Rows : Type 0 where
  pub rows : List (List ℤ)
  pub factors : List ℤ

abbrev pub rows_of : List RowLine → Rows
rows_of lines = record { rows = values_of lines; factors = factors_of lines }

-- the rows in front of lent records and factors, which may be more
abbrev pub front_rows : Header → (c : List (List ℤ)) → (f : List ℤ) → Rows
front_rows h c f = record { rows = take h.rows c; factors = take (h.rows * h.zones) f }

-- ---- reading
-- the line of row 0
abbrev pub first_line_no : ℕ
first_line_no = 1

abbrev pub lines_in : Header → (sheet : List ℕ) → Section RowLine
lines_in h sheet = lines_at (sheet_line h.zones) first_line_no h.rows sheet 0 0

-- as many lines as the header has rows; nothing follows
abbrev pub sheet_rows : Header → (sheet : List ℕ) → Judged Rows
sheet_rows h sheet = with_lines (lines_in h sheet) (λ lines e. cond (ltb e (length sheet)) (Err (wrong_form (first_line_no + h.rows))) (Ok (rows_of lines)))

-- 1, then the header (3, line 1), then the lines (2 and 3)
unfoldable pub read_sheet : Header → (sheet : List ℕ) → Judged Rows
read_sheet h sheet = cond (ltb bytes_most (length sheet)) (Err too_long) (unless (header_fits h) (out_of_range header_line_no) (sheet_rows h sheet))

-- 8: records, and then factors
unfoldable pub row_room : {A : Type 0} → Header → (c f : ℕ) → Judged A → Judged A
row_room h c f next = need h.rows c (need (h.rows * h.zones) f next)

pub record RowsLeft : Type 0 where
  pub answer : Judged (Unit {0})
  pub c : List (List ℤ)
  pub f : List ℤ

-- with room for all rows: they stand in front; a refusal writes nothing
unfoldable pub read_rows_left : Header → (sheet : List ℕ) → (c : List (List ℤ)) → (f : List ℤ) → RowsLeft
read_rows_left h sheet c f =
    either (then (read_sheet h sheet) (λ t. row_room h (length c) (length f) (Ok t)))
    (λ t. record { answer = Ok tt; c = over t.rows c; f = over t.factors f })
    (λ w. record { answer = Err w; c = c; f = f })

abbrev pub rows_said : Ruling → (c : List (List ℤ)) → (f : List ℤ) → RowsLeft
rows_said r c f = record { answer = said_judgement r tt; c = c; f = f }

-- ---- writing
unfoldable pub sheet_of : (zones : ℕ) → Rows → List ℕ
sheet_of zones t = rows_text_by row_kind.Sheet zones t.rows t.factors

-- each row in range, with the line it would have
unfoldable pub rows_in_range : (zones : ℕ) → Rows → Judged Rows
rows_in_range zones t = refuse_first (length t.rows) (λ i. not (row_good (get_or t.rows i []) (stretch zones t.factors i))) (λ i. out_of_range (first_line_no + i)) (Ok t)

-- the header (3, line 1), lengths (8), records (3)
unfoldable pub judge_rows : Header → (c : List (List ℤ)) → (f : List ℤ) → Judged Rows
judge_rows h c f =
    unless (header_fits h) (out_of_range header_line_no)
    (row_room h (length c) (length f)
    (rows_in_range h.zones (front_rows h c f)))

-- what `write_rows` leaves: header, lengths and records are judged, and then room for the text (8)
unfoldable pub write_rows_left : Header → (c : List (List ℤ)) → (f : List ℤ) → (out : List ℕ) → TextLeft
write_rows_left h c f out = text_left (then (judge_rows h c f) (λ t. Ok (sheet_of h.zones t))) out
