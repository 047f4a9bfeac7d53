-- Both ends of every range of 01 ("The table as text"): the last value inside is taken, the first outside is refused (3, with its line), by computation.
-- Zones 16 and 17 and borders 64 and 65 are in `Edges.antt`. Below 0 no text can give a field that has no sign, and a lent record is refused.
use Rattle.std.specs.Prelude.{Err, Ok}
use mathlib.Core.Path.{refl}
use mathlib.Core.List.{List, [], ◌∷◌, ◌++◌}
use Prim.Native.Nat.{ℕ}
use lib.IntN.{pos}
use Rattle.numbers.specs.Ints.{minus}
use Rattle.refusals.specs.Refusals.{out_of_range}
use Rattle.tablerules.specs.Table.{Table}
use Rattle.reading.specs.Reading.{read_text}
use Rattle.writing.specs.Writing.{table_text}
use Rattle.answer.specs.Result.{answer_text}
use Rattle.numbers.specs.Computed.{◌is◌, Hold}
use Rattle.figures.specs.Computing.{computing}
use Rattle.text.specs.Shown.{shown}
use Rattle.figures.specs.Borders.{plain_border}
use Rattle.figures.specs.Small.{with_zone, with_border, with_row, lent_border, lent_row}

-- every value at an end of its range: the highest in row 0, the lowest in row 1 (a flow's other way round), R as "-" in row 2
abbrev ends_text : List ℕ
ends_text =
    shown "H 2 2 3/Z 0 -100000000/Z 1 100000000/B 0 0 1 10000/B 1 1 0 0/"
    ++ shown "C 0 10000000 10000000 20000000 -20000000 10000 10000000 10000000 100000 -100000/"
    ++ shown "C 1 1 0 -20000000 20000000 0 0 0 -100000 100000/"
    ++ shown "C 2 1 1 0 0 - 0 0 0 0/"

abbrev ends_table : Table
ends_table =
    record {
      header = record { zones = 2; borders = 2; rows = 3; share = minus 1; intraday = 0 };
      nets = minus 100000000 ∷ pos 100000000 ∷ [];
      allocated = [];
      borders = plain_border 0 1 10000 ∷ plain_border 1 0 0 ∷ [];
      rows =
          (pos 10000000 ∷ pos 10000000 ∷ pos 20000000 ∷ minus 20000000 ∷ pos 10000 ∷ pos 10000000 ∷ pos 10000000 ∷ [])
          ∷ (pos 1 ∷ pos 0 ∷ minus 20000000 ∷ pos 20000000 ∷ pos 0 ∷ pos 0 ∷ pos 0 ∷ [])
          ∷ (pos 1 ∷ pos 1 ∷ pos 0 ∷ pos 0 ∷ minus 1 ∷ pos 0 ∷ pos 0 ∷ [])
          ∷ [];
      factors = pos 100000 ∷ minus 100000 ∷ minus 100000 ∷ pos 100000 ∷ pos 0 ∷ pos 0 ∷ [];
    }

pub ranges : Hold (
    -- the ends are inside, and "-" is written again
    read_text ends_text is Ok ends_table
    ∷ table_text ends_table is ends_text
    -- H: zones 2..16, borders 1..64, rows 1..200 (a header with 200 rows passes: line 2 is missing)
    ∷ answer_text (shown "H 1 1 1/") is shown "E 3 1 3/"
    ∷ answer_text (shown "H 2 0 1/") is shown "E 3 1 5/"
    ∷ answer_text (shown "H 2 1 0/") is shown "E 3 1 7/"
    ∷ answer_text (shown "H 2 1 200/") is shown "E 2 2 0/"
    ∷ answer_text (shown "H 2 1 201/") is shown "E 3 1 7/"
    -- Z: -100000000..100000000
    ∷ with_zone "Z 1 -100000001/" is shown "E 3 3 5/"
    ∷ with_zone "Z 1 100000001/" is shown "E 3 3 5/"
    -- B: from zone, to zone (both exist, not equal), LTA 0..10000
    ∷ lent_border (minus 1) (pos 1) (pos 0) is Err (out_of_range 4)
    ∷ with_border "B 0 2 1 0/" is shown "E 3 4 5/"
    ∷ lent_border (pos 0) (minus 1) (pos 0) is Err (out_of_range 4)
    ∷ with_border "B 0 0 2 0/" is shown "E 3 4 7/"
    ∷ with_border "B 0 1 1 0/" is shown "E 3 4 7/"
    ∷ lent_border (pos 0) (pos 1) (minus 1) is Err (out_of_range 4)
    ∷ with_border "B 0 0 1 10001/" is shown "E 3 4 9/"
    -- C: Fmax 1..10000000, FRM 0..Fmax
    ∷ with_row "C 0 0 0 0 0 0 0 0 20000 0/" is shown "E 3 5 5/"
    ∷ with_row "C 0 10000001 0 0 0 0 0 0 20000 0/" is shown "E 3 5 5/"
    ∷ lent_row (pos 10000) (minus 1) (pos 0) (pos 0) (pos 0) is Err (out_of_range 5)
    ∷ with_row "C 0 10000 10001 0 0 0 0 0 20000 0/" is shown "E 3 5 11/"
    -- C: Fref and F0all -20000000..20000000
    ∷ with_row "C 0 10000 0 -20000001 0 0 0 0 20000 0/" is shown "E 3 5 13/"
    ∷ with_row "C 0 10000 0 20000001 0 0 0 0 20000 0/" is shown "E 3 5 13/"
    ∷ with_row "C 0 10000 0 0 -20000001 0 0 0 20000 0/" is shown "E 3 5 15/"
    ∷ with_row "C 0 10000 0 0 20000001 0 0 0 20000 0/" is shown "E 3 5 15/"
    -- C: R 0..10000 or "-" (-1 in a record)
    ∷ lent_row (pos 10000) (pos 0) (minus 2) (pos 0) (pos 0) is Err (out_of_range 5)
    ∷ with_row "C 0 10000 0 0 0 10001 0 0 20000 0/" is shown "E 3 5 17/"
    -- C: CVA and IVA 0..10000000
    ∷ lent_row (pos 10000) (pos 0) (pos 0) (minus 1) (pos 0) is Err (out_of_range 5)
    ∷ with_row "C 0 10000 0 0 0 0 10000001 0 20000 0/" is shown "E 3 5 19/"
    ∷ lent_row (pos 10000) (pos 0) (pos 0) (pos 0) (minus 1) is Err (out_of_range 5)
    ∷ with_row "C 0 10000 0 0 0 0 0 10000001 20000 0/" is shown "E 3 5 21/"
    -- C: each factor -100000..100000
    ∷ with_row "C 0 10000 0 0 0 0 0 0 20000 -100001/" is shown "E 3 5 29/"
    ∷ with_row "C 0 10000 0 0 0 0 0 0 100001 0/" is shown "E 3 5 23/"
    ∷ [])
unfolding computing
ranges = refl
