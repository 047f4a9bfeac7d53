-- Reading with a correction sheet, computed on a small day (02, E2). Nobody cites it: it refuses a definition that slipped.
-- A blank stands for a tab, / for an LF. The day has 2 zones, one border and 2 rows, of which a sheet corrects the second.
use Rattle.std.specs.Prelude.{Err, Ok}
use mathlib.Core.Path.{refl}
use mathlib.Core.List.{List, [], ◌∷◌, ◌++◌}
use Prim.Native.Nat.{ℕ}
use Prim.Native.String.{String}
use lib.IntN.{ℤ, pos}
use Rattle.numbers.specs.Below.{first_from, given}
use Rattle.numbers.specs.Ints.{minus, inside, same_ℤ, sum_ℤ}
use Rattle.numbers.specs.Computed.{◌is◌, Hold}
use Rattle.refusals.specs.Refusals.{Judged, wrong_form_at, out_of_range_at, given_twice, too_short, wrong_correction, then, either, unless, refuse_at, refuse_first, need}
use Rattle.types.specs.declared.Header.{Header}
use Rattle.types.specs.Ranges.{header_fits, allocated_items, zone_fits, exists, hubs_fit, border_fits, share_of, row_of, row_fits, factor_fits}
use Rattle.text.specs.Fields.{number_at, signed_at, share_at}
use Rattle.text.specs.Point.{decimals_at, point_at, signed_point_at}
use Rattle.text.specs.Shown.{shown}
use Rattle.columns.specs.Columns.{field_at, fields_at}
use Rattle.columns.specs.ColumnLine.{head_at, rest_at, columns_line}
use Rattle.columns.specs.Optional.{optional_line}
use Rattle.blame.specs.Blame.{good_at, byte_at, fields_byte, line_byte}
use Rattle.blame.specs.RangeBlame.{past_seps, range_byte}
use Rattle.sections.specs.Section.{lines_at}
use Rattle.tablerules.specs.Table.{Table, lent, balanced, twice, room_for}
use Rattle.lines.specs.Lines.{header_line, position_line, border_line, row_line}
use Rattle.lines.specs.SheetLine.{sheet_line}
use Rattle.corrections.specs.Corrections.{sheet_kind, of_row, ended_index, given_index, due_index}
use Rattle.reading.specs.Reading.{lines_by, read_text, read_corrected, tables_left, read_corrected_left}

unfoldable computing : Unit {0}
unfolding first_from given inside same_ℤ sum_ℤ header_fits allocated_items zone_fits exists hubs_fit border_fits share_of row_of row_fits factor_fits then either unless refuse_at refuse_first need number_at signed_at share_at decimals_at point_at signed_point_at field_at fields_at head_at rest_at columns_line optional_line good_at byte_at fields_byte line_byte past_seps range_byte lines_at balanced twice room_for header_line position_line border_line row_line sheet_line sheet_kind of_row ended_index given_index due_index lines_by read_text read_corrected tables_left
computing = tt

abbrev rows : String
rows = "C 0 100 0 0 0 7000 0 0 20000 0/C 1 100 0 0 0 7000 0 0 0 5000/"

abbrev day : (lines : String) → List ℕ
day lines = shown lines ++ shown rows

abbrev plain : List ℕ
plain = day "H 2 1 2/Z 0 5/Z 1 -5/B 0 0 1 100/"

-- row 1 with other values, and "-" for R
abbrev noon : List ℕ
noon = shown "C 1 90 1 2 3 - 4 5 -6 7/"

-- the same row as the planners' sheet has it
abbrev semicolons : List ℕ
semicolons = shown "1;0.090;0.001;0.002;0.003;-;0.004;0.005;-0.00006;0.00007/"

abbrev merged : (share : ℤ) → (intraday : ℕ) → (allocated : List ℤ) → Table
merged share intraday allocated =
    lent (record { zones = 2; borders = 1; rows = 2; share = share; intraday = intraday }) (pos 5 ∷ minus 5 ∷ []) allocated ((pos 0 ∷ pos 1 ∷ pos 100 ∷ minus 1 ∷ minus 1 ∷ []) ∷ [])
    ((pos 100 ∷ pos 0 ∷ pos 0 ∷ pos 0 ∷ pos 7000 ∷ pos 0 ∷ pos 0 ∷ []) ∷ (pos 90 ∷ pos 1 ∷ pos 2 ∷ pos 3 ∷ minus 1 ∷ pos 4 ∷ pos 5 ∷ []) ∷ [])
    (pos 20000 ∷ pos 0 ∷ minus 6 ∷ pos 7 ∷ [])

abbrev answered : (text corrections : List ℕ) → Judged Header
answered text corrections = (read_corrected_left text corrections [] [] [] [] []).answer

pub noons : Hold (
    -- the sheet's row where it has one, and else the day's
    read_corrected plain noon is Ok (merged (minus 1) 0 [])  -- one
    ∷ read_corrected plain semicolons is Ok (merged (minus 1) 0 [])  -- semicolons
    -- all but the rows is the day's: the default of R, and the profile
    ∷ read_corrected (day "H 2 1 2 6000/Z 0 5/Z 1 -5/B 0 0 1 100/") noon is Ok (merged (pos 6000) 0 [])  -- default
    ∷ read_corrected (day "H 2 1 2/Z 0 5/Z 1 -5/T 0 3/T 1 -3/B 0 0 1 100/") noon is Ok (merged (minus 1) 1 (pos 3 ∷ minus 3 ∷ []))  -- intraday
    -- 10, the sheet's line and its byte
    ∷ read_corrected plain (shown "C 1 90 1 2 3 - 4 5 -6 7/C 1 90 1 2 3 - 4 5 -6 7/") is Err (wrong_correction 2 3)  -- faulty
    ∷ read_corrected plain (semicolons ++ noon) is Err (wrong_correction 2 1)  -- another-kind
    -- after 2, 3 and 4 of the day's text, and before 8
    ∷ read_corrected (day "H 2 1 2/Z 0 5/Z 1 -5/B 0 0 1 +1/") (shown "x") is Err (wrong_form_at 4 9)  -- after-2
    ∷ read_corrected (day "H 2 1 2/Z 0 5/Z 1 -5/B 0 0 0 100/") (shown "x") is Err (out_of_range_at 4 7)  -- after-3
    ∷ read_corrected (day "H 2 2 2/Z 0 5/Z 1 -5/B 0 0 1 100/B 1 0 1 100/") (shown "x") is Err (given_twice 1)  -- after-4
    ∷ answered plain (shown "x") is Err (wrong_correction 1 0)  -- before-8
    ∷ answered plain noon is Err (too_short 2)  -- then-8
    ∷ [])
unfolding computing
noons = refl
