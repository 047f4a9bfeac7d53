-- A correction sheet over the day's text (02, E2): rows with rising indices, nothing else. Its lines are C lines, or lines of the planners' semicolon sheet (02, E11): all
-- of one kind, which is seen from the sheet's first byte (`sheet_kind`). For each row the line handed on is the piece of the sheet that holds it, or else the piece of the
-- day's text; its kind goes with it. `handed_by` and `judge_corrections` are what reading is defined by.
use Rattle.std.specs.Prelude.{Bool, false, cond, ◌&&◌, List, [], ◌∷◌, ℕ, ◌+◌, eqb, leb, ltb, Ok, Err}
use Rattle.numbers.specs.Below.{at}
use Rattle.refusals.specs.Refusals.{Judged, wrong_correction}
use Rattle.text.specs.Fields.{feed, is_digit, number_at, with_number}
use Rattle.text.specs.Line.{Line, byte_of}
use Rattle.lines.specs.Lines.{RowLine}
use Rattle.lines.specs.RowKinds.{sep_by}
use Rattle.lines.specs.SaidRow.{line_by}
use Rattle.lines.specs.declared.row.RowKind.{RowKind}
use Rattle.lines.specs.declared.row.RowKind.TheVariants.{Table, Sheet}

-- the lines of a text, each with its LF; what follows the last LF is a line too
abbrev pub joined : ℕ → List (List ℕ) → List (List ℕ)
joined b [] = (b ∷ []) ∷ []
joined b (l ∷ ls) = (b ∷ l) ∷ ls

abbrev pub pieces : (text : List ℕ) → List (List ℕ)
pieces [] = []
pieces (b ∷ s) = cond (eqb b feed) ((b ∷ []) ∷ pieces s) (joined b (pieces s))

-- ---- the kind of a sheet's lines
-- a digit begins a line of the planners' sheet; any other byte, or none, a sheet of C lines
unfoldable pub sheet_kind : (sheet : List ℕ) → RowKind
sheet_kind sheet = cond (is_digit (at sheet 0)) Sheet Table

-- the place where a line's index begins: after its letter and a tab, or at once
abbrev pub index_place : RowKind → ℕ
index_place Table = 2
index_place Sheet = 0

-- ---- which line is handed on
-- a line with its kind
pub record Piece : Type 0 where
  pub kind : RowKind
  pub line : List ℕ

abbrev pub piece : (kind : RowKind) → (line : List ℕ) → Piece
piece kind line = record { kind = kind; line = line }

-- what it holds of row i
abbrev pub row_in : (zones : ℕ) → Piece → (i : ℕ) → Line RowLine
row_in zones p i = line_by p.kind zones p.line i

-- a line gives itself the index i
unfoldable pub of_row : (kind : RowKind) → (line : List ℕ) → (i : ℕ) → Bool
of_row kind line i = with_number (number_at line (index_place kind) (sep_by kind)) false (λ index next. eqb index i)

-- row i's line: the piece of the sheet that holds it, or else the piece of the day's text
abbrev pub handed_on : (kind : RowKind) → (sheet : List (List ℕ)) → (day : Piece) → (i : ℕ) → Piece
handed_on kind [] day i = day
handed_on kind (line ∷ rest) day i = cond (of_row kind line i) (piece kind line) (handed_on kind rest day i)

abbrev pub handed_by : (sheet : List ℕ) → (day : Piece) → (i : ℕ) → Piece
handed_by sheet = handed_on (sheet_kind sheet) (pieces sheet)

-- ---- the sheet, judged
-- the index that a line gives itself, whether the byte between fields or an LF ends it. A line that gives none is refused whatever index is due, so 0 serves
unfoldable pub ended_index : (kind : RowKind) → (line : List ℕ) → ℕ
ended_index kind line = with_number (number_at line (index_place kind) feed) 0 (λ index next. index)

unfoldable pub given_index : (kind : RowKind) → (line : List ℕ) → ℕ
given_index kind line = with_number (number_at line (index_place kind) (sep_by kind)) (ended_index kind line) (λ index next. index)

-- the index due in a line: its own, if that is in least..rows; else another, so that the index is what is wrong with the line,
-- and its first byte is to blame (02, E5) unless the fault is further left
unfoldable pub due_index : (kind : RowKind) → (rows least : ℕ) → (line : List ℕ) → ℕ
due_index kind rows least line = let given = given_index kind line in cond (leb least given && ltb given rows) given (given + 1)

-- 10, by the line's number in the sheet; a good line goes on
abbrev pub on_correction : Line RowLine → (number : ℕ) → Judged (Unit {0}) → Judged (Unit {0})
on_correction (Ok c) number rest = rest
on_correction (Err bad) number rest = Err (wrong_correction number (byte_of bad))

-- lines of a sheet, the first of them of row `least` or later; the first faulty line decides
abbrev pub judge_from : (kind : RowKind) → (zones rows least number : ℕ) → (sheet : List (List ℕ)) → Judged (Unit {0})
judge_from kind zones rows least number [] = Ok tt
judge_from kind zones rows least number (line ∷ rest) =
    let i = due_index kind rows least line in
    on_correction (line_by kind zones line i) number (judge_from kind zones rows (i + 1) (number + 1) rest)

abbrev pub judge_corrections : (zones rows : ℕ) → (sheet : List ℕ) → Judged (Unit {0})
judge_corrections zones rows sheet = judge_from (sheet_kind sheet) zones rows 0 1 (pieces sheet)
