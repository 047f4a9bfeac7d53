-- Reading the table (01, "The table as text", "When the table is turned away"), with or without a correction sheet (02, E2), and what the open calls `read` and
-- `read_corrected` (crate lending) leave. Which line is handed on for a row is said by `pick`, of the day's line and the row's index: the day's own (`as_given`), or by a sheet (`handed_by`).
use Rattle.std.specs.Prelude.{Bool, cond, List, ℕ, ltb, leb, eqb, ℤ, length, Ok, Err}
use Prim.Native.Char.{code}
use Rattle.numbers.specs.Below.{at, over}
use Rattle.limits.specs.Limits.{bytes_most}
use Rattle.refusals.specs.Refusals.{Judged, then, either, unless, too_long, wrong_form, out_of_range_at}
use Rattle.types.specs.declared.Header.{Header}
use Rattle.types.specs.Ranges.{allocated_items, profiled}
use Rattle.text.specs.Line.{line_at, after, Line, refusal_of}
use Rattle.sections.specs.Section.{lines_at, with_lines}
use Rattle.tablerules.specs.Table.{Table, lent, front, balanced, not_twice, table_room, header_line_no, zone_line_no, allocated_line_no, last_allocated_line_no, border_line_no, row_line_no, past_line_no}
use Rattle.lines.specs.Lines.{header_line, zone_line, allocated_line, border_line}
use Rattle.corrections.specs.Corrections.{Piece, handed_by, judge_corrections}
use Rattle.rowlines.specs.Rows.{values_of, factors_of, as_given, picked_row}

abbrev pub with_header : {A : Type 0} → Line Header → (Header → Judged A) → Judged A
with_header (Ok h) next = next h
with_header (Err bad) next = Err (refusal_of bad header_line_no)

-- which of the two profiles a text is of is seen from the letter of the line after the last Z line: T means the intraday one (02, E12)
abbrev pub intraday_at : (text : List ℕ) → (place : ℕ) → Bool
intraday_at text place = eqb (at text place) (code "T")

-- the first byte of the last T line's position: before it stand T, a tab, the line's index (one digit up to ten zones, and then two) and a tab
abbrev pub balance_byte : (zones : ℕ) → ℕ
balance_byte zones = cond (leb zones 10) 5 6

-- all C lines, from place q on; nothing follows
abbrev pub rows_from : (pick : Piece → ℕ → Piece) → (text : List ℕ) → Header → (nets allocated : List ℤ) → (borders : List (List ℤ)) → (q : ℕ) → Judged Table
rows_from pick text h nets allocated borders q =
    with_lines (lines_at (picked_row h.zones pick) (row_line_no h) h.rows text q 0) (λ rows e.
    cond (ltb e (length text)) (Err (wrong_form (past_line_no h)))
    (Ok (record { header = h; nets = nets; allocated = allocated; borders = borders; rows = values_of rows; factors = factors_of rows })))

-- all B lines, from place o on, and then all C lines
abbrev pub borders_from : (pick : Piece → ℕ → Piece) → (text : List ℕ) → Header → (nets allocated : List ℤ) → (o : ℕ) → Judged Table
borders_from pick text h nets allocated o =
    with_lines (lines_at (border_line h.zones) (border_line_no h) h.borders text o 0) (λ borders q.
    rows_from pick text h nets allocated borders q)

-- from `place` on no T line, or one for each zone, whose positions sum to zero (judged at the last T line); and then all B and C lines
abbrev pub allocated_from : (pick : Piece → ℕ → Piece) → (text : List ℕ) → Header → (nets : List ℤ) → (place : ℕ) → Judged Table
allocated_from pick text h nets place =
    with_lines (lines_at allocated_line (allocated_line_no h) (allocated_items h) text place 0) (λ allocated o.
    unless (balanced allocated) (out_of_range_at (last_allocated_line_no h) (balance_byte h.zones))
    (borders_from pick text h nets allocated o))

-- one H line, then all Z, T (where the table has them), B, C lines, each kind by index from 0; nothing follows
unfoldable pub lines_by : (pick : Piece → ℕ → Piece) → (text : List ℕ) → Judged Table
lines_by pick text =
    with_header (header_line (line_at text 0)) (λ counts.
    with_lines (lines_at zone_line zone_line_no counts.zones text (after text 0) 0) (λ nets place.
    allocated_from pick text (profiled counts (intraday_at text place)) nets place))

abbrev pub lines_of : (text : List ℕ) → Judged Table
lines_of text = lines_by as_given text

-- reading judges 1, then the lines (2 and 3), then 4
unfoldable pub read_text : (text : List ℕ) → Judged Table
read_text text = cond (ltb bytes_most (length text)) (Err too_long) (then (lines_of text) not_twice)

-- reading with a correction sheet judges 1 of either text, then 2 to 4 of the day's, then 10; and then each row's line is the piece of the sheet that holds it, or else the
-- piece of the day's text
unfoldable pub read_corrected : (text sheet : List ℕ) → Judged Table
read_corrected text sheet =
    cond (ltb bytes_most (length sheet)) (Err too_long)
    (then (read_text text) (λ day.
    then (judge_corrections day.header.zones day.header.rows sheet) (λ _.
    lines_by (handed_by sheet) text)))

-- what reading leaves: its answer, and each lent table
pub record ReadLeft : Type 0 where
  pub answer : Judged Header
  pub z : List ℤ
  pub t : List ℤ
  pub b : List (List ℤ)
  pub c : List (List ℤ)
  pub f : List ℤ

-- room for the table is judged last (8). A refusal writes nothing; else the table stands in front, and the rest of each buffer is not changed
unfoldable pub tables_left : Judged Table → (z t : List ℤ) → (b c : List (List ℤ)) → (f : List ℤ) → ReadLeft
tables_left judged z t b c f =
    either (then judged (λ u. table_room u.header (lent u.header z t b c f) (Ok u)))
    (λ u. record { answer = Ok u.header; z = over u.nets z; t = over u.allocated t; b = over u.borders b; c = over u.rows c; f = over u.factors f })
    (λ w. record { answer = Err w; z = z; t = t; b = b; c = c; f = f })

-- the open calls `read` and `read_corrected`
abbrev pub read_left : (text : List ℕ) → (z t : List ℤ) → (b c : List (List ℤ)) → (f : List ℤ) → ReadLeft
read_left text z t b c f = tables_left (read_text text) z t b c f

abbrev pub read_corrected_left : (text sheet : List ℕ) → (z t : List ℤ) → (b c : List (List ℤ)) → (f : List ℤ) → ReadLeft
read_corrected_left text sheet z t b c f = tables_left (read_corrected text sheet) z t b c f

-- what a read into room for the largest table comes to: the table stands in front; where it is refused, nothing is said of the lent tables
abbrev pub read_into : Judged Header → (z t : List ℤ) → (b c : List (List ℤ)) → (f : List ℤ) → Judged Table
read_into (Ok h) z t b c f = Ok (front (lent h z t b c f))
read_into (Err w) z t b c f = Err w
