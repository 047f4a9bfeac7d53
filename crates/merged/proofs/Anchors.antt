-- The merged text computed on a small day (02, E2). Nobody cites it: it refuses a definition that slipped.
-- A blank stands for a tab, / for an LF.
use mathlib.Core.Path.{refl}
use mathlib.Core.List.{List, [], ◌∷◌}
use Prim.Native.Nat.{ℕ}
use Prim.Native.String.{String}
use Rattle.numbers.specs.Computed.{◌is◌, Hold}
use Rattle.numbers.specs.Below.{table}
use Rattle.numbers.specs.Ints.{inside}
use Rattle.types.specs.Ranges.{header_fits, share_of, row_of, row_fits, factor_fits}
use Rattle.text.specs.Fields.{number_at, share_at}
use Rattle.text.specs.Point.{decimals_at, point_at, signed_point_at}
use Rattle.text.specs.Shown.{shown}
use Rattle.text.specs.Written.{text_of, decimal, decimal_ℤ}
use Rattle.columns.specs.Columns.{field_at, fields_at}
use Rattle.columns.specs.ColumnLine.{head_at, rest_at, columns_line}
use Rattle.columns.specs.ColumnText.{field_text, fields_ended, index_text, head_text, columns_text}
use Rattle.columns.specs.Optional.{optional_line}
use Rattle.lines.specs.Lines.{header_line}
use Rattle.lines.specs.SheetLine.{sheet_line}
use Rattle.corrections.specs.Corrections.{sheet_kind, of_row}
use Rattle.merged.specs.Merged.{merged_text}

abbrev day : String
day = "H 2 1 3/Z 0 5/Z 1 -5/B 0 0 1 100/C 0 1 a/C 1 2 b/C 2 3 c/"

abbrev merge : (corrections : String) → List ℕ
merge corrections = merged_text (shown day) (shown corrections)

unfoldable computing : Unit {0}
unfolding table inside header_fits share_of row_of row_fits factor_fits number_at share_at decimals_at point_at signed_point_at text_of decimal decimal_ℤ field_at fields_at head_at rest_at columns_line field_text fields_ended index_text head_text columns_text optional_line header_line sheet_line sheet_kind of_row merged_text
computing = tt

pub merges : Hold (
    -- the sheet's line where it has one of the row, and not where it has one at all: rows 0 and 2 stay the day's
    merge "C 1 9 x y/" is shown "H 2 1 3/Z 0 5/Z 1 -5/B 0 0 1 100/C 0 1 a/C 1 9 x y/C 2 3 c/"  -- one
    -- the first row and the last, and not the first two
    ∷ merge "C 0 7/C 2 8/" is shown "H 2 1 3/Z 0 5/Z 1 -5/B 0 0 1 100/C 0 7/C 1 2 b/C 2 8/"  -- two
    -- all of them
    ∷ merge "C 0 7/C 1 8/C 2 9/" is shown "H 2 1 3/Z 0 5/Z 1 -5/B 0 0 1 100/C 0 7/C 1 8/C 2 9/"  -- all
    -- none
    ∷ merge "" is shown day  -- none
    -- a line of the planners' sheet is handed on as the C line of its values: of the row it names, and not of the others
    ∷ merge "1;9.000;0.000;-1.500;0.000;-;0.000;0.001;0.00001;-1.00000/" is shown "H 2 1 3/Z 0 5/Z 1 -5/B 0 0 1 100/C 0 1 a/C 1 9000 0 -1500 0 - 0 1 1 -100000/C 2 3 c/"  -- semicolons
    -- for as many zones as the H line says: three factors are no row of two zones
    ∷ merge "1;9.000;0.000;0.000;0.000;-;0.000;0.000;0.00001;0.00000;0.00000/" is shown "H 2 1 3/Z 0 5/Z 1 -5/B 0 0 1 100/C 0 1 a/1;9.000;0.000;0.000;0.000;-;0.000;0.000;0.00001;0.00000;0.00000/C 2 3 c/"  -- other-zones
    ∷ [])
unfolding computing
merges = refl
