-- A line of each kind of column, written. Nobody cites it: it refuses a definition that slipped.
use mathlib.Core.Path.{refl}
use mathlib.Core.List.{[], ◌∷◌}
use Prim.Native.Char.{code}
use lib.IntN.{pos}
use Rattle.numbers.specs.Ints.{minus}
use Rattle.numbers.specs.Computed.{◌is◌, Hold}
use Rattle.types.specs.LineColumns.{number, signed, share}
use Rattle.text.specs.Written.{text_of, decimal, decimal_ℤ}
use Rattle.text.specs.Fields.{tab, feed, dash, number_at}
use Rattle.columns.specs.declared.Head.TheVariants.{Lettered, Indexed, Bare}
use Rattle.columns.specs.Columns.{values, field_at, fields_at}
use Rattle.columns.specs.ColumnLine.{head_at, rest_at, columns_line}
use Rattle.columns.specs.ColumnText.{field_text, fields_ended, index_text, head_text, columns_text}
use Rattle.columns.specs.Optional.{optional_line, optional_text}

pub anchors : Hold (
    -- index 0, the number 7, -5 and an R of "-", which a record keeps as -1: parted by tabs, and by semicolons
    columns_text tab (Indexed (code "C") 0) (number ∷ signed ∷ share ∷ []) (pos 7 ∷ minus 5 ∷ minus 1 ∷ []) is (code "C" ∷ tab ∷ 48 ∷ tab ∷ 55 ∷ tab ∷ dash ∷ 53 ∷ tab ∷ dash ∷ feed ∷ [])  -- dash-again
    ∷ columns_text (code ";") (Indexed (code "C") 0) (number ∷ signed ∷ []) (pos 7 ∷ minus 5 ∷ []) is (code "C" ∷ code ";" ∷ 48 ∷ code ";" ∷ 55 ∷ code ";" ∷ dash ∷ 53 ∷ feed ∷ [])  -- other-separator
    -- index 0, the number 7, and two numbers that may be left out: left out, and 5 and 6
    ∷ optional_text tab (Indexed (code "B") 0) (number ∷ []) (number ∷ number ∷ []) (pos 7 ∷ minus 1 ∷ minus 1 ∷ []) is (code "B" ∷ tab ∷ 48 ∷ tab ∷ 55 ∷ feed ∷ [])  -- left-out-again
    ∷ optional_text tab (Indexed (code "B") 0) (number ∷ []) (number ∷ number ∷ []) (pos 7 ∷ pos 5 ∷ pos 6 ∷ []) is (code "B" ∷ tab ∷ 48 ∷ tab ∷ 55 ∷ tab ∷ 53 ∷ tab ∷ 54 ∷ feed ∷ [])  -- given-again
    ∷ optional_line tab (Indexed (code "B") 0) (number ∷ []) (number ∷ number ∷ []) (code "B" ∷ tab ∷ 48 ∷ tab ∷ 55 ∷ feed ∷ []) is values (pos 7 ∷ minus 1 ∷ minus 1 ∷ []) 6  -- left-out-read
    -- a line without an index, and one without a letter
    ∷ columns_text tab (Lettered (code "H")) (number ∷ signed ∷ []) (pos 7 ∷ minus 5 ∷ []) is (code "H" ∷ tab ∷ 55 ∷ tab ∷ dash ∷ 53 ∷ feed ∷ [])  -- lettered-again
    ∷ columns_text (code ";") (Bare 0) (number ∷ signed ∷ []) (pos 7 ∷ minus 5 ∷ []) is (48 ∷ code ";" ∷ 55 ∷ code ";" ∷ dash ∷ 53 ∷ feed ∷ [])  -- bare-again
    ∷ [])
unfolding columns_text head_text index_text fields_ended field_text decimal decimal_ℤ text_of optional_line columns_line head_at rest_at fields_at field_at number_at
anchors = refl
