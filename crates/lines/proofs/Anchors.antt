-- A line of each kind that is good, of wrong form, and out of range, with its byte (02, E5). Nobody cites it: it refuses a definition that slipped.
-- A blank stands for a tab, / for an LF. Each line of wrong form has a value out of range too, so that form is seen to come before range.
use mathlib.Core.Path.{refl}
use mathlib.Core.List.{List, [], ◌∷◌}
use Prim.Native.String.{String}
use lib.IntN.{ℤ, pos}
use Rattle.numbers.specs.Below.{first_from, given}
use Rattle.numbers.specs.Ints.{minus, inside, same_ℤ}
use Rattle.numbers.specs.Computed.{◌is◌, Hold}
use Rattle.types.specs.declared.Header.{Header}
use Rattle.types.specs.Ranges.{header_fits, zone_fits, exists, hubs_fit, border_fits, share_of, row_of, row_fits, factor_fits}
use Rattle.text.specs.Fields.{number_at, signed_at, share_at}
use Rattle.text.specs.Line.{Line}
use Rattle.text.specs.Point.{decimals_at, point_at, signed_point_at}
use Rattle.text.specs.Shown.{shown}
use Rattle.columns.specs.Columns.{field_at, fields_at}
use Rattle.columns.specs.ColumnLine.{head_at, rest_at, columns_line}
use Rattle.columns.specs.Optional.{optional_line}
use Rattle.blame.specs.Blame.{good_at, byte_at, fields_byte, line_byte}
use Rattle.blame.specs.RangeBlame.{past_seps, range_byte}
use Rattle.lines.specs.Lines.{RowLine, row, header_line, position_line, zone_line, border_line, row_line}
use Rattle.lines.specs.SheetLine.{sheet_line}
use Rattle.std.specs.Prelude.{Ok, Err}
use Rattle.text.specs.declared.LineFault.TheVariants.{Form, Range}

unfoldable computing : Unit {0}
unfolding first_from given inside same_ℤ header_fits zone_fits exists hubs_fit border_fits share_of row_of row_fits factor_fits number_at signed_at share_at field_at fields_at head_at rest_at columns_line optional_line good_at byte_at fields_byte line_byte past_seps range_byte header_line position_line border_line row_line decimals_at point_at signed_point_at sheet_line
computing = tt

-- index 1, and 3 zones in a B line, 2 in a C line and in a line of the planners' sheet
abbrev h : String → Line Header
h s = header_line (shown s)

abbrev z : String → Line ℤ
z s = zone_line (shown s) 1

abbrev b : String → Line (List ℤ)
b s = border_line 3 (shown s) 1

abbrev c : String → Line RowLine
c s = row_line 2 (shown s) 1

abbrev p : String → Line RowLine
p s = sheet_line 2 (shown s) 1

pub lines : Hold (
    h "H 3 2 4/" is Ok (record { zones = 3; borders = 2; rows = 4; share = minus 1; intraday = 0 })  -- h-good
    ∷ h "H 17 2 +4/" is Err (Form 8)  -- h-form
    -- a wrong form by the longer list of columns: the fourth field, which the tab begins, is empty
    ∷ h "H 17 2 4 /" is Err (Form 10)  -- h-longer
    ∷ h "H 17 2/" is Err (Form 0)  -- h-few
    ∷ h "H 3 65 201/" is Err (Range 5)  -- h-range
    ∷ z "Z 1 -5/" is Ok (minus 5)  -- z-good
    ∷ z "Z 1 1000000001x/" is Err (Form 15)  -- z-form
    ∷ z "Z 0 1000000001/" is Err (Form 3)  -- z-index
    ∷ z "B 1 1000000001/" is Err (Form 0)  -- z-letter
    ∷ z "Z 1 1000000001/" is Err (Range 5)  -- z-range
    ∷ b "B 1 0 1 5/" is Ok (pos 0 ∷ pos 1 ∷ pos 5 ∷ minus 1 ∷ minus 1 ∷ [])  -- b-good
    ∷ b "B 1 9 1 -5/" is Err (Form 9)  -- b-form
    ∷ b "B 1 9 1 5 /" is Err (Form 11)  -- b-longer
    ∷ b "B 1 1 1 10001/" is Err (Range 7)  -- b-range
    ∷ b "B 1 0 1 5 2 2/" is Err (Range 13)  -- b-hubs
    ∷ c "C 1 9 0 0 0 - 0 0 1 -2/" is Ok (row (pos 9 ∷ pos 0 ∷ pos 0 ∷ pos 0 ∷ minus 1 ∷ pos 0 ∷ pos 0 ∷ []) (pos 1 ∷ minus 2 ∷ []))  -- c-good
    ∷ c "C 1 9 10 0 0 - 0 0 1 -0/" is Err (Form 23)  -- c-form
    ∷ c "C 1 9 10 0 0 - 0 0 1 -2 0/" is Err (Form 0)  -- c-many
    ∷ c "C 1 9 10 0 0 - 0 0 1 100001/" is Err (Range 7)  -- c-range
    ∷ c "C 1 9 0 0 0 - 0 0 1 100001/" is Err (Range 21)  -- c-factor
    -- the same row in the sheet
    ∷ p "1;0.009;0.000;0.000;0.000;-;0.000;0.000;0.00001;-0.00002/" is Ok (row (pos 9 ∷ pos 0 ∷ pos 0 ∷ pos 0 ∷ minus 1 ∷ pos 0 ∷ pos 0 ∷ []) (pos 1 ∷ minus 2 ∷ []))  -- p-good
    ∷ p "1;0.009;0.010;0.000;0.000;-;0.000;0.000;0.00001;-0,00002/" is Err (Form 51)  -- p-form
    ∷ p "1;0.009;0.010;0.000;0.000;-;0.000;0.000;0.00001;1.00001/" is Err (Range 9)  -- p-range
    ∷ p "1;0.009;0.000;0.000;0.000;-;0.000;0.000;0.00001;1.00001/" is Err (Range 49)  -- p-factor
    ∷ [])
unfolding computing
lines = refl
