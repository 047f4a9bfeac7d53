-- The edge figures of 01 that are not marked [p], "-" for R, and the two hours that show what the worked hour does not, by computation.
use Rattle.std.specs.Prelude.{Ok}
use mathlib.Core.Path.{refl}
use mathlib.Core.List.{[], ◌∷◌}
use Prim.Native.Nat.{◌+◌, ◌*◌, ◌/◌, ◌%◌}
use lib.IntN.{pos}
use Rattle.numbers.specs.Ints.{minus}
use Rattle.numbers.specs.Below.{table}
use Rattle.tablerules.specs.Table.{Table}
use Rattle.reading.specs.Reading.{read_text}
use Rattle.writing.specs.Writing.{table_text}
use Rattle.answer.specs.Result.{answer_text}
use Rattle.numbers.specs.Computed.{◌is◌, Hold}
use Rattle.figures.specs.Computing.{computing}
use Rattle.text.specs.Shown.{shown}
use Rattle.figures.specs.Borders.{plain_border}
use Rattle.figures.specs.Small.{with_zone, with_row}

-- 16 zones, 64 borders, 3 rows
abbrev full : Table
full =
    record {
      header = record { zones = 16; borders = 64; rows = 3; share = minus 1; intraday = 0 };
      nets = table 16 (λ z. pos z);
      allocated = [];
      borders = table 64 (λ b. plain_border (b / 8) (8 + b % 8) b);
      rows = table 3 (λ i. pos 100000 ∷ pos i ∷ pos 0 ∷ pos 0 ∷ pos 0 ∷ pos 0 ∷ pos 0 ∷ []);
      factors = table 48 (λ k. pos (k * 1000));
    }

pub edges : Hold (
    -- Border 1 to 0 alone and factors 20000, 0: refusal 6
    answer_text (shown "H 2 1 1/Z 0 0/Z 1 0/B 0 1 0 0/C 0 100000 0 0 0 0 0 0 20000 0/") is shown "E 6 0 0/"
    -- Empty text: 2, line 1. "-0": 2
    ∷ answer_text [] is shown "E 2 1 0/"
    ∷ with_zone "Z 1 -0/" is shown "E 2 3 6/"
    -- Zones 16 pass, 17: 3, line 1. Borders 64 pass, 65: 3 (02, E8)
    ∷ read_text (table_text full) is Ok full
    ∷ answer_text (shown "H 17 64 3/") is shown "E 3 1 3/"
    ∷ answer_text (shown "H 16 65 3/") is shown "E 3 1 6/"
    -- "-" in R means 7000: AMR is 1 kW, as in the figures, and RAM 70000 kW
    ∷ with_row "C 0 100000 30001 0 0 - 0 0 20000 0/" is shown "A 0 350 1 0/M 0 0 7000000000 0/R 1/"
    -- a relieving (negative) factor is no gain of margin
    ∷ answer_text (shown "H 2 2 2/Z 0 0/Z 1 0/B 0 0 1 0/B 1 1 0 0/C 0 100000 0 0 0 0 0 0 20000 0/C 1 100000 0 0 0 0 0 0 0 20000/") is shown "A 0 500 1 0/A 1 500 1 1/M 0 0 10000000000 0/M 1 0 10000000000 0/R 1/"
    -- border 1 does not rise from margins that border 0 has just lowered
    ∷ answer_text (shown "H 3 2 1/Z 0 0/Z 1 0/Z 2 0/B 0 0 1 0/B 1 0 2 0/C 0 100000 0 0 0 0 0 0 20000 0 0/") is shown "A 0 250 1 0/A 1 250 1 0/M 0 0 10000000000 0/R 1/"
    ∷ [])
unfolding computing
edges = refl
