-- A text as far as it was read: what is known before each kind of line (01, "When the table is turned away"). Promises are stated through these.
-- What was read stands in front of tables that have room for the largest table.
use Rattle.std.specs.Prelude.{◌≡◌, true, List, [], ℕ, ◌*◌, ◌≤◌, ℤ, length, take, Ok, Err}
use Rattle.limits.specs.Limits.{zones_most, borders_most, rows_most}
use Rattle.refusals.specs.Answers.{said_judgement}
use Rattle.refusals.specs.Refusals.{Judged, then, refuse_first, given_twice, Ruling}
use Rattle.types.specs.declared.Header.{Header}
use Rattle.types.specs.Ranges.{header_fits, allocated_items}
use Rattle.text.specs.Line.{line_at, after}
use Rattle.tablerules.specs.Table.{Table, twice, not_twice}
use Rattle.lines.specs.Lines.{header_line}
use Rattle.corrections.specs.Corrections.{Piece, handed_by, judge_corrections}
use Rattle.reading.specs.Reading.{allocated_from, borders_from, rows_from, lines_by, lines_of, ReadLeft}

-- room for the largest table
pub record Roomy (z t : List ℤ) (b c : List (List ℤ)) (f : List ℤ) : Type 0 where
  pub zones : zones_most ≤ length z
  pub allocated : zones_most ≤ length t
  pub borders : borders_most ≤ length b
  pub rows : rows_most ≤ length c
  pub factors : rows_most * zones_most ≤ length f

-- the H line of a text holds h, and the next line begins at place `at`
pub record Headed (text : List ℕ) (h : Header) (at : ℕ) : Type 0 where
  pub header_is : header_line (line_at text 0) ≡ Ok h
  pub at_is : at ≡ after text 0

-- the Z lines are read, and what is left to read begins at place `at`
pub record Netted (text : List ℕ) (h : Header) (z : List ℤ) (at : ℕ) : Type 0 where
  pub fits : header_fits h ≡ true
  pub within : at ≤ length text
  pub left : (pick : Piece → ℕ → Piece) → lines_by pick text ≡ allocated_from pick text h (take h.zones z) at

-- where the reading stands after the T lines
pub record Allocated (text : List ℕ) (h : Header) (z t : List ℤ) (at : ℕ) : Type 0 where
  pub fits : header_fits h ≡ true
  pub within : at ≤ length text
  pub left : (pick : Piece → ℕ → Piece) → lines_by pick text ≡ borders_from pick text h (take h.zones z) (take (allocated_items h) t) at

-- where the reading stands after the B lines
pub record Bordered (text : List ℕ) (h : Header) (z t : List ℤ) (b : List (List ℤ)) (at : ℕ) : Type 0 where
  pub fits : header_fits h ≡ true
  pub within : at ≤ length text
  pub left : (pick : Piece → ℕ → Piece) → lines_by pick text ≡ rows_from pick text h (take h.zones z) (take (allocated_items h) t) (take h.borders b) at

-- texts that are not too long, read: 2 and 3, then 4, then 10
unfoldable pub read_short : (text sheet : List ℕ) → Judged Table
read_short text sheet =
    then (then (lines_of text) not_twice) (λ day.
    then (judge_corrections day.header.zones day.header.rows sheet) (λ _.
    lines_by (handed_by sheet) text))

-- the sheet whose lines are handed on while its judgement is held back: where it is refused, none of them is
abbrev pub used_of : (held : Ruling) → (sheet : List ℕ) → List ℕ
used_of (Ok tt) sheet = sheet
used_of (Err w) sheet = []

-- what is judged after the last line: borders given twice, and then what was held back
abbrev pub judged_last : Header → (held : Ruling) → (borders : List (List ℤ)) → Judged Header
judged_last h held borders = refuse_first h.borders (twice borders) given_twice (said_judgement held h)

-- an answer, with each lent table as it stands
abbrev pub read_said : Judged Header → (z t : List ℤ) → (b c : List (List ℤ)) → (f : List ℤ) → ReadLeft
read_said r z t b c f = record { answer = r; z = z; t = t; b = b; c = c; f = f }
