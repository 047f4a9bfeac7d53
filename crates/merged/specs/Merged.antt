-- The merged text (02, E2: "for each row the line handed on is the piece of the sheet that holds it, or else the piece of the day's text"), said of the bytes
-- of the two texts: each row stands there as a C line. A C line that is handed on is that very line; a line of the planners' sheet (02, E11) is its values written as a
-- C line, for as many zones as the day's H line says.
use Rattle.std.specs.Prelude.{Bool, cond, List, [], ◌∷◌, ◌++◌, ℕ, ◌+◌, eqb, Ok, Err}
use Prim.Native.Char.{code}
use Rattle.numbers.specs.Below.{at}
use Rattle.types.specs.declared.Header.{Header}
use Rattle.text.specs.Line.{line_at, Line}
use Rattle.lines.specs.Lines.{RowLine, header_line}
use Rattle.lines.specs.SheetLine.{sheet_line}
use Rattle.lines.specs.declared.row.RowKind.{RowKind}
use Rattle.lines.specs.declared.row.RowKind.TheVariants.{Table, Sheet}
use Rattle.corrections.specs.Corrections.{pieces, Piece, piece, handed_by}
use Rattle.layout.specs.Layout.{row_text}

-- a C line, by its letter
abbrev pub is_row : (line : List ℕ) → Bool
is_row line = eqb (at line 0) (code "C")

-- what a line holds, written as the C line of row i; a line that holds no row stays
abbrev pub held_text : Line RowLine → (line : List ℕ) → (i : ℕ) → List ℕ
held_text (Ok c) line i = row_text i c.values c.factors
held_text (Err bad) line i = line

-- row i's line as a C line, by its kind
abbrev pub as_row : RowKind → (zones : ℕ) → (line : List ℕ) → (i : ℕ) → List ℕ
as_row Table zones line i = line
as_row Sheet zones line i = held_text (sheet_line zones line i) line i

-- lines of the day's text, where the first C line is row i's: each C line is replaced by the line handed on for its row, and each other line stays
abbrev pub merged_from : (zones : ℕ) → (pick : Piece → ℕ → Piece) → (i : ℕ) → (day : List (List ℕ)) → List ℕ
merged_from zones pick i [] = []
merged_from zones pick i (line ∷ rest) =
    let handed = pick (piece Table line) i in
    cond (is_row line) (as_row handed.kind zones handed.line i ++ merged_from zones pick (i + 1) rest) (line ++ merged_from zones pick i rest)

-- how many zones an H line says
abbrev pub zones_in : Line Header → ℕ
zones_in (Ok h) = h.zones
zones_in (Err bad) = 0

unfoldable pub merged_text : (text sheet : List ℕ) → List ℕ
merged_text text sheet = merged_from (zones_in (header_line (line_at text 0))) (handed_by sheet) 0 (pieces text)
