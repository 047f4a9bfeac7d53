-- The rows that a section of lines holds: their raw records and factors (01, "The table as text").
-- Which line is handed on for a row, the day's or another (02, E2), is said by `pick`, of the day's line and the row's index; its kind goes with it.
use Rattle.std.specs.Prelude.{List, [], ◌∷◌, ◌++◌, ℕ, ℤ, take, drop, Ok, Err}
use Rattle.text.specs.Line.{Line}
use Rattle.lines.specs.Lines.{RowLine, row}
use Rattle.lines.specs.SaidRow.{line_by}
use Rattle.lines.specs.declared.row.RowKind.{RowKind}
use Rattle.lines.specs.declared.row.RowKind.TheVariants.{Table}
use Rattle.corrections.specs.Corrections.{Piece, piece, row_in}

-- the raw records of the lines, and their factors, each row's after the one before
abbrev pub values_of : List RowLine → List (List ℤ)
values_of [] = []
values_of (c ∷ cs) = c.values ∷ values_of cs

abbrev pub factors_of : List RowLine → List ℤ
factors_of [] = []
factors_of (c ∷ cs) = c.factors ++ factors_of cs

-- rows as they are stored, cut up again: each raw record with its stretch of the factors
abbrev pub cut : (zones : ℕ) → (rows : List (List ℤ)) → (factors : List ℤ) → List RowLine
cut zones [] factors = []
cut zones (v ∷ rows) factors = row v (take zones factors) ∷ cut zones rows (drop zones factors)

-- each line is the day's own
abbrev pub as_given : (day : Piece) → (i : ℕ) → Piece
as_given day i = day

-- a row's line, of this kind, as the line that is picked for its row
abbrev pub picked_by : RowKind → (zones : ℕ) → (pick : Piece → ℕ → Piece) → (line : List ℕ) → (i : ℕ) → Line RowLine
picked_by kind zones pick line i = row_in zones (pick (piece kind line) i) i

-- the same of a C line of the table
abbrev pub picked_row : (zones : ℕ) → (pick : Piece → ℕ → Piece) → (line : List ℕ) → (i : ℕ) → Line RowLine
picked_row = picked_by Table

-- a line's own fault, or else what another comes to
abbrev pub instead : {A : Type 0} → (own other : Line A) → Line A
instead (Ok a) other = other
instead (Err bad) other = Err bad

-- a row's line is judged, and then what the line holds that is picked for its row
abbrev pub corrected_by : RowKind → (zones : ℕ) → (pick : Piece → ℕ → Piece) → (line : List ℕ) → (i : ℕ) → Line RowLine
corrected_by kind zones pick line i = instead (line_by kind zones line i) (picked_by kind zones pick line i)
