-- A line of a record, computed. Nobody cites it: it refuses a definition that slipped.
use mathlib.Core.Path.{refl}
use mathlib.Core.List.{[], ◌∷◌}
use lib.IntN.{pos}
use Rattle.numbers.specs.Ints.{minus}
use Rattle.numbers.specs.Computed.{◌is◌, Hold}
use Rattle.text.specs.Shown.{shown}
use Rattle.text.specs.Written.{text_of, decimal, decimal_ℤ, lines_text}
use Rattle.columns.specs.ColumnText.{field_text, fields_ended, index_text, head_text, columns_text}
use Rattle.partstext.specs.PartsText.{parts_text, parts_most}

pub anchors : Hold (
    -- a row with a Fuaf and a starting margin below 0
    parts_text ((pos 1 ∷ pos 2 ∷ pos 3 ∷ minus 4 ∷ pos 5 ∷ pos 6 ∷ pos 7 ∷ pos 8 ∷ pos 9 ∷ pos 10 ∷ pos 11 ∷ minus 12 ∷ []) ∷ []) is shown "V 0 1 2 3 -4 5 6 7 8 9 10 11 -12/"  -- line
    -- the code's `TEXT_MOST`
    ∷ parts_most is 42000  -- most
    ∷ [])
unfolding text_of decimal decimal_ℤ lines_text field_text fields_ended index_text head_text columns_text
anchors = refl
