-- A small sheet's text, computed. Nobody cites it: it refuses a definition that slipped.
use mathlib.Core.Path.{◌≡◌, refl}
use mathlib.Core.List.{[], ◌∷◌}
use lib.IntN.{pos}
use Rattle.numbers.specs.Ints.{minus}
use Rattle.text.specs.Written.{text_of, decimal, decimal_ℤ, lines_text}
use Rattle.columns.specs.ColumnText.{field_text, fields_ended, index_text, head_text, columns_text}
use Rattle.cornertext.specs.CornerText.{corners_text}

-- row 3, flows 0 and -5: K, 3, 0, 0 and K, 3, 1, -5, with a tab before each field and an LF after each line
pub two_lines : corners_text 3 (pos 0 ∷ minus 5 ∷ [])
    ≡ 75 ∷ 9 ∷ 51 ∷ 9 ∷ 48 ∷ 9 ∷ 48 ∷ 10 ∷ 75 ∷ 9 ∷ 51 ∷ 9 ∷ 49 ∷ 9 ∷ 45 ∷ 53 ∷ 10 ∷ []
unfolding text_of decimal decimal_ℤ lines_text field_text fields_ended index_text head_text columns_text corners_text
two_lines = refl
