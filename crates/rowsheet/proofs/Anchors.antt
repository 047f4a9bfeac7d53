-- A sheet of two rows of a table with two zones, read and written, and sheets that differ from it in one thing, each with the refusal it gets. Nobody cites
-- it: it refuses a definition that slipped. / stands for an LF.
use Rattle.std.specs.Prelude.{Err, Ok}
use mathlib.Core.Path.{refl}
use mathlib.Core.List.{[], ◌∷◌, ◌++◌}
use Prim.Native.String.{String}
use lib.IntN.{pos}
use lib.ListN.{length, take}
use Rattle.numbers.specs.Below.{first_from, given, table}
use Rattle.numbers.specs.Ints.{minus, inside}
use Rattle.numbers.specs.Computed.{◌is◌, Hold}
use Rattle.refusals.specs.Refusals.{Judged, then, either, unless, need, refuse_at, refuse_first, wrong_form_at, wrong_form, out_of_range_at}
use Rattle.types.specs.declared.Header.{Header}
use Rattle.types.specs.Ranges.{header_fits, share_of, row_fits, row_of, factor_fits}
use Rattle.text.specs.Fields.{number_at, share_at}
use Rattle.text.specs.Left.{TextLeft, text_left}
use Rattle.text.specs.Shown.{shown}
use Rattle.text.specs.Written.{text_of, decimal, lines_text}
use Rattle.text.specs.Point.{decimals_at, point_at, signed_point_at, last_digits, pointed, pointed_ℤ}
use Rattle.columns.specs.Columns.{field_at, fields_at}
use Rattle.columns.specs.ColumnLine.{head_at, rest_at, columns_line}
use Rattle.columns.specs.ColumnText.{field_text, fields_ended, index_text, head_text, columns_text}
use Rattle.blame.specs.Blame.{good_at, byte_at, fields_byte, line_byte}
use Rattle.blame.specs.RangeBlame.{past_seps, range_byte}
use Rattle.sections.specs.Section.{lines_at}
use Rattle.tablerules.specs.Table.{stretch}
use Rattle.lines.specs.SheetLine.{sheet_line}
use Rattle.rowsheet.specs.RowSheet.{Rows, read_sheet, row_room, sheet_of, rows_in_range, judge_rows, write_rows_left}
use Rattle.rowsheet.proofs.LengthLaws.{sheet_most}

unfoldable computing : Unit {0}
unfolding read_sheet row_room sheet_of rows_in_range judge_rows write_rows_left text_left then either need table sheet_line lines_at head_at columns_line index_text head_text columns_text rest_at fields_at field_at field_text fields_ended good_at byte_at fields_byte line_byte past_seps range_byte number_at share_at text_of decimal lines_text decimals_at point_at signed_point_at last_digits pointed pointed_ℤ unless refuse_at refuse_first first_from given inside header_fits share_of row_fits row_of factor_fits stretch
computing = tt

abbrev two : Header
two = record { zones = 2; borders = 1; rows = 2; share = minus 1; intraday = 0 }

-- the records and the factors of the two rows: powers in kW, factors in hundred-thousandths
abbrev rows : Rows
rows = record {
  rows = (pos 1500 ∷ pos 100 ∷ minus 20 ∷ pos 0 ∷ minus 1 ∷ pos 0 ∷ pos 7 ∷ []) ∷ (pos 2000000 ∷ pos 0 ∷ pos 1 ∷ minus 1 ∷ pos 7000 ∷ pos 0 ∷ pos 0 ∷ []) ∷ [];
  factors = pos 50000 ∷ minus 12345 ∷ pos 0 ∷ pos 1 ∷ [];
}

abbrev text : String
text = "0;1.500;0.100;-0.020;0.000;-;0.000;0.007;0.50000;-0.12345/1;2000.000;0.000;0.001;-0.001;7000;0.000;0.000;0.00000;0.00001/"

abbrev reads : String → Judged Rows
reads s = read_sheet two (shown s)

-- what `write_rows` leaves where three records are lent and the header says two: the lent bytes are two more than the sheet has
abbrev left : TextLeft
left = write_rows_left two (rows.rows ++ ((pos 0 ∷ []) ∷ [])) (rows.factors ++ (pos 9 ∷ [])) (table (length (shown text)) (λ k. 0) ++ (55 ∷ 10 ∷ []))

pub sheet_anchors : Hold (
    reads text is Ok rows  -- read
    ∷ sheet_of 2 rows is shown text  -- written
    -- one row is missing: its line has no byte to blame; a byte more: the line after the last
    ∷ reads "0;1.500;0.100;-0.020;0.000;-;0.000;0.007;0.50000;-0.12345/" is Err (wrong_form 2)  -- missing
    ∷ read_sheet two (shown text ++ (48 ∷ [])) is Err (wrong_form 3)  -- extra
    -- another line's index; a decimal comma; a byte order mark; a CR before the LF
    ∷ reads "1;1.500;0.100;-0.020;0.000;-;0.000;0.007;0.50000;-0.12345/" is Err (wrong_form_at 1 1)  -- other-index
    ∷ reads "0;1.500;0,100;-0.020;0.000;-;0.000;0.007;0.50000;-0.12345/" is Err (wrong_form_at 1 10)  -- comma
    ∷ read_sheet two (239 ∷ 187 ∷ 191 ∷ shown text) is Err (wrong_form_at 1 1)  -- mark
    ∷ read_sheet two (shown "0;1.500;0.100;-0.020;0.000;-;0.000;0.007;0.50000;-0.12345" ++ (13 ∷ 10 ∷ [])) is Err (wrong_form_at 1 58)  -- return
    -- the eighth digit before the point of a power, the sixth of a factor; the last 0 of "-0.000"; the point of ".500"; the byte after "1.00"; a fourth decimal
    ∷ reads "0;12345678.000;0.100;-0.020;0.000;-;0.000;0.007;0.50000;-0.12345/" is Err (wrong_form_at 1 10)  -- eighth
    ∷ reads "0;1.500;0.100;-0.020;0.000;-;0.000;0.007;123456.00000;-0.12345/" is Err (wrong_form_at 1 47)  -- sixth
    ∷ reads "0;1.500;0.100;-0.000;0.000;-;0.000;0.007;0.50000;-0.12345/" is Err (wrong_form_at 1 20)  -- minus-zero
    ∷ reads "0;.500;0.100;-0.020;0.000;-;0.000;0.007;0.50000;-0.12345/" is Err (wrong_form_at 1 3)  -- no-digit
    ∷ reads "0;1.00;0.100;-0.020;0.000;-;0.000;0.007;0.50000;-0.12345/" is Err (wrong_form_at 1 7)  -- two-decimals
    ∷ reads "0;1.5000;0.100;-0.020;0.000;-;0.000;0.007;0.50000;-0.12345/" is Err (wrong_form_at 1 8)  -- fourth
    -- right form, and Fmax out of range: its first byte
    ∷ reads "0;9999999.999;0.100;-0.020;0.000;-;0.000;0.007;0.50000;-0.12345/" is Err (out_of_range_at 1 3)  -- out
    -- the sheet of the two rows, and then what stood there: what was written reads back, and all of the lent bytes do not
    ∷ left is (record { answer = Ok (length (shown text)); out = shown text ++ (55 ∷ 10 ∷ []) })  -- wrote
    ∷ read_sheet two (take (length (shown text)) left.out) is Ok rows  -- read-back
    ∷ read_sheet two left.out is Err (wrong_form 3)  -- all-of-it
    -- the bytes of the longest sheet
    ∷ sheet_most is 60200  -- longest
    ∷ [])
unfolding computing
sheet_anchors = refl
