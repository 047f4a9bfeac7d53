-- Correction sheets judged and merged, computed on examples (02, E2). Nobody cites it: it refuses a definition that slipped.
-- A blank stands for a tab, / for an LF. The table has 2 zones and 3 rows; `judge` is what a sheet comes to, and 10 is told with its line and its byte.
use Rattle.std.specs.Prelude.{Err, Ok}
use mathlib.Core.Path.{refl}
use mathlib.Core.List.{[], ◌∷◌}
use Prim.Native.Nat.{ℕ}
use Prim.Native.String.{String}
use Rattle.numbers.specs.Below.{first_from, given}
use Rattle.numbers.specs.Ints.{inside}
use Rattle.numbers.specs.Computed.{◌is◌, Hold}
use Rattle.refusals.specs.Refusals.{Judged, wrong_correction}
use Rattle.types.specs.Ranges.{share_of, row_of, row_fits, factor_fits}
use Rattle.text.specs.Fields.{number_at, signed_at, share_at}
use Rattle.text.specs.Point.{decimals_at, point_at, signed_point_at}
use Rattle.text.specs.Shown.{shown}
use Rattle.columns.specs.Columns.{field_at, fields_at}
use Rattle.columns.specs.ColumnLine.{head_at, rest_at, columns_line}
use Rattle.blame.specs.Blame.{good_at, byte_at, fields_byte, line_byte}
use Rattle.blame.specs.RangeBlame.{past_seps, range_byte}
use Rattle.lines.specs.Lines.{row_line}
use Rattle.lines.specs.SheetLine.{sheet_line}
use Rattle.lines.specs.declared.row.RowKind.TheVariants.{Table, Sheet}
use Rattle.corrections.specs.Corrections.{sheet_kind, Piece, piece, of_row, handed_by, ended_index, given_index, due_index, judge_corrections}

abbrev judge : String → Judged (Unit {0})
judge s = judge_corrections 2 3 (shown s)

abbrev handed : (corrections day : String) → (i : ℕ) → Piece
handed corrections day i = handed_by (shown corrections) (piece Table (shown day)) i

abbrev good : Judged (Unit {0})
good = Ok tt

abbrev bad : (line byte : ℕ) → Judged (Unit {0})
bad line byte = Err (wrong_correction line byte)

unfoldable computing : Unit {0}
unfolding first_from given inside share_of row_of row_fits factor_fits number_at signed_at share_at decimals_at point_at signed_point_at field_at fields_at head_at rest_at columns_line good_at byte_at fields_byte line_byte past_seps range_byte row_line sheet_line sheet_kind of_row ended_index given_index due_index
computing = tt

pub sheets : Hold (
    -- C lines with rising indices, nothing else; R may be "-", as in a table
    judge "" is good  -- none
    ∷ judge "C 1 9 0 0 0 - 0 0 1 -2/" is good  -- one
    ∷ judge "C 0 9 0 0 0 7000 0 0 1 -2/C 1 9 0 0 0 - 0 0 1 -2/C 2 9 0 0 0 - 0 0 1 -2/" is good  -- all
    -- an index not above the one before: the index field's first byte
    ∷ judge "C 1 9 0 0 0 - 0 0 1 -2/C 1 9 0 0 0 - 0 0 1 -2/" is bad 2 3  -- equal
    ∷ judge "C 1 9 0 0 0 - 0 0 1 -2/C 0 9 0 0 0 - 0 0 1 -2/" is bad 2 3  -- lower
    -- an index that is not in the table
    ∷ judge "C 3 9 0 0 0 - 0 0 1 -2/" is bad 1 3  -- beyond
    -- such an index is the leftmost fault, before a bad byte further right, and where an LF ends it
    ∷ judge "C 3 9x 0 0 0 - 0 0 1 -2/" is bad 1 3  -- index-first
    ∷ judge "C 3/" is bad 1 3  -- index-ended
    -- a field's form comes before its value, and the letter before both
    ∷ judge "C 3x 9 0 0 0 - 0 0 1 -2/" is bad 1 4  -- index-form
    ∷ judge "C 01 9 0 0 0 - 0 0 1 -2/" is bad 1 4  -- index-zero
    ∷ judge "C  9 0 0 0 - 0 0 1 -2/" is bad 1 3  -- index-empty
    ∷ judge "B 3 9 0 0 0 - 0 0 1 -2/" is bad 1 0  -- letter
    -- a good index that an LF ends: too few fields
    ∷ judge "C 1/" is bad 1 0  -- few
    ∷ judge "C 1 9 0 0 0 - 0 0 1 -2 0/" is bad 1 0  -- many
    -- as for a C line
    ∷ judge "C 1 9 0 0 0 - 0 0 1 -0/" is bad 1 22  -- byte
    ∷ judge "C 1 9 10 0 0 - 0 0 1 -2/" is bad 1 7  -- range
    ∷ judge "C 0 9 0 0 0 - 0 0 1 -2/C 1 9 0 0 0 - 0 0 1 100001/" is bad 2 21  -- factor
    -- no LF at the end, an empty line, a line too many: the sheet's own line is told
    ∷ judge "C 1 9 0 0 0 - 0 0 1 -2" is bad 1 0  -- no-feed
    ∷ judge "C 1 9 0 0 0 - 0 0 1 -2//" is bad 2 0  -- empty
    ∷ judge "C 1 9 0 0 0 - 0 0 1 -2/x" is bad 2 0  -- more
    -- the first faulty line decides
    ∷ judge "C 1 9 10 0 0 - 0 0 1 -2/C 1/" is bad 1 7  -- first
    -- the piece of the sheet that holds the row, or else the piece of the day's text
    ∷ handed "C 0 8/C 2 9/" "C 2 7/" 2 is piece Table (shown "C 2 9/")  -- from-sheet
    ∷ handed "C 0 8/C 2 9/" "C 1 7/" 1 is piece Table (shown "C 1 7/")  -- from-day
    ∷ handed "" "C 0 7/" 0 is piece Table (shown "C 0 7/")  -- no-sheet
    ∷ [])
unfolding computing
sheets = refl

pub kinds : Hold (
    -- the first byte tells: a digit, and nothing else
    sheet_kind (shown "0;9.000") is Sheet  -- zero
    ∷ sheet_kind (shown "9") is Sheet  -- nine
    ∷ sheet_kind (shown "C 1") is Table  -- letter
    ∷ sheet_kind [] is Table  -- none
    ∷ sheet_kind (shown "/") is Table  -- feed
    ∷ sheet_kind (47 ∷ []) is Table  -- before-0
    ∷ sheet_kind (58 ∷ []) is Table  -- after-9
    ∷ [])
unfolding computing
kinds = refl

-- lines of the planners' sheet
pub rows : Hold (
    judge "0;9.000;0.000;0.000;0.000;7000;0.000;0.000;0.00001;-0.00002/2;9.000;0.000;0.000;-1.500;-;0.000;0.000;0.00001;-0.00002/" is good  -- two
    -- the index field's first byte: not above the one before, not in the table, where an LF ends it
    ∷ judge "1;9.000;0.000;0.000;0.000;-;0.000;0.000;0.00001;0.00000/1;9.000;0.000;0.000;0.000;-;0.000;0.000;0.00001;0.00000/" is bad 2 1  -- equal
    ∷ judge "3;9.000;0.000;0.000;0.000;-;0.000;0.000;0.00001;0.00000/" is bad 1 1  -- beyond
    ∷ judge "3;9x" is bad 1 1  -- index-first
    ∷ judge "3/" is bad 1 1  -- index-ended
    ∷ judge "1/" is bad 1 0  -- few
    ∷ judge "01;9.000" is bad 1 2  -- index-zero
    -- all lines are of one kind: a C line in a sheet of semicolons, and the other way round
    ∷ judge "1;9.000;0.000;0.000;0.000;-;0.000;0.000;0.00001;0.00000/C 2 9 0 0 0 - 0 0 1 -2/" is bad 2 1  -- c-line
    ∷ judge "C 1 9 0 0 0 - 0 0 1 -2/2;9.000;0.000;0.000;0.000;-;0.000;0.000;0.00001;0.00000/" is bad 2 0  -- semicolons
    -- a decimal fault with its byte: two decimals, four, a factor with three, a comma, a number without a point
    ∷ judge "1;9.00;0.000;0.000;0.000;-;0.000;0.000;0.00001;0.00000/" is bad 1 7  -- two-decimals
    ∷ judge "1;9.0000;0.000;0.000;0.000;-;0.000;0.000;0.00001;0.00000/" is bad 1 8  -- four-decimals
    ∷ judge "1;9.000;0.000;0.000;0.000;-;0.000;0.000;0.000;0.00000/" is bad 1 46  -- factor-with-three
    ∷ judge "1;9,000;0.000;0.000;0.000;-;0.000;0.000;0.00001;0.00000/" is bad 1 4  -- comma
    ∷ judge "1;9;0.000;0.000;0.000;-;0.000;0.000;0.00001;0.00000/" is bad 1 4  -- no-point
    -- a value out of range: FRM above Fmax, a factor above 1
    ∷ judge "1;9.000;9.001;0.000;0.000;-;0.000;0.000;0.00001;0.00000/" is bad 1 9  -- range
    ∷ judge "1;9.000;0.000;0.000;0.000;-;0.000;0.000;0.00001;1.00001/" is bad 1 49  -- factor
    -- no LF at the end, an empty line, a field too many
    ∷ judge "1;9.000;0.000;0.000;0.000;-;0.000;0.000;0.00001;0.00000" is bad 1 0  -- no-feed
    ∷ judge "1;9.000;0.000;0.000;0.000;-;0.000;0.000;0.00001;0.00000//" is bad 2 1  -- empty
    ∷ judge "1;9.000;0.000;0.000;0.000;-;0.000;0.000;0.00001;0.00000;0.00000/" is bad 1 0  -- many
    -- the piece handed on has the sheet's kind, and the day's its own
    ∷ handed "0;8/2;9/" "C 2 7/" 2 is piece Sheet (shown "2;9/")  -- from-sheet
    ∷ handed "0;8/2;9/" "C 1 7/" 1 is piece Table (shown "C 1 7/")  -- from-day
    ∷ [])
unfolding computing
rows = refl
