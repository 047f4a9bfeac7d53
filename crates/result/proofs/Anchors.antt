-- A result text, and how long one can be, as a number. Nobody cites it: it refuses a definition that slipped.
use mathlib.Core.Path.{refl}
use mathlib.Core.List.{[], ◌∷◌}
use lib.IntN.{pos}
use Rattle.numbers.specs.Ints.{minus}
use Rattle.numbers.specs.Computed.{◌is◌, Hold}
use Rattle.text.specs.Shown.{shown}
use Rattle.text.specs.Written.{text_of, decimal, decimal_ℤ, fields_text, line_text, lines_text}
use Rattle.columns.specs.ColumnText.{field_text, fields_ended, index_text, head_text, columns_text}
use Rattle.result.specs.Records.{records_text, result_line_most, records_most}

pub anchors : Hold (
    -- a border that row 0 stopped and one that no row did; a row with a margin left of 0, and one that was not kept
    records_text ((pos 350 ∷ pos 1 ∷ pos 0 ∷ []) ∷ (pos 20 ∷ pos 0 ∷ minus 1 ∷ []) ∷ []) ((pos 0 ∷ pos 70 ∷ pos 0 ∷ []) ∷ (pos 1 ∷ minus 9 ∷ minus 1 ∷ []) ∷ []) 3 is shown "A 0 350 1 0/A 1 20 0 -/M 0 0 70 0/M 1 1 -9 -/R 3/"  -- text
    -- 86 bytes a line; an A line for each of 64 borders, an M line for each of 200 rows, and the R line: 265 lines
    ∷ result_line_most is 86  -- line
    ∷ records_most is 22790  -- records
    ∷ [])
unfolding text_of decimal decimal_ℤ fields_text line_text lines_text field_text fields_ended index_text head_text columns_text records_text
anchors = refl
