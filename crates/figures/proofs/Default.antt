-- The H line's fourth field (02, E6), by computation: what "-" is worth, what is written again, and what is refused.
use Rattle.std.specs.Prelude.{Ok}
use mathlib.Core.Path.{refl}
use mathlib.Core.List.{[], ◌∷◌}
use lib.IntN.{ℤ, pos}
use Rattle.numbers.specs.Ints.{minus}
use Rattle.tablerules.specs.Table.{Table}
use Rattle.reading.specs.Reading.{read_text}
use Rattle.writing.specs.Writing.{table_text}
use Rattle.answer.specs.Result.{answer_text}
use Rattle.numbers.specs.Computed.{◌is◌, Hold}
use Rattle.figures.specs.Computing.{computing}
use Rattle.figures.specs.Borders.{plain_border}
use Rattle.text.specs.Shown.{shown}

-- Fmax 100000, FRM 50000, R as given, one border with p 20000 and LTA 100
abbrev table_with : (share r : ℤ) → Table
table_with share r =
    record {
      header = record { zones = 2; borders = 1; rows = 1; share = share; intraday = 0 };
      nets = pos 0 ∷ pos 0 ∷ [];
      allocated = [];
      borders = plain_border 0 1 100 ∷ [];
      rows = (pos 100000 ∷ pos 50000 ∷ pos 0 ∷ pos 0 ∷ r ∷ pos 0 ∷ pos 0 ∷ []) ∷ [];
      factors = pos 20000 ∷ pos 0 ∷ [];
    }

pub defaults : Hold (
    -- "-" is worth the default, as if it were written; 7000 where there is none
    answer_text (shown "H 2 1 1 9000/Z 0 0/Z 1 0/B 0 0 1 100/C 0 100000 50000 0 0 - 0 0 20000 0/") is shown "A 0 450 1 0/M 0 0 9000000000 0/R 1/"
    ∷ answer_text (shown "H 2 1 1/Z 0 0/Z 1 0/B 0 0 1 100/C 0 100000 50000 0 0 9000 0 0 20000 0/") is shown "A 0 450 1 0/M 0 0 9000000000 0/R 1/"
    ∷ answer_text (shown "H 2 1 1/Z 0 0/Z 1 0/B 0 0 1 100/C 0 100000 50000 0 0 - 0 0 20000 0/") is shown "A 0 350 1 0/M 0 0 7000000000 0/R 1/"
    -- R that is written does not look at it; a default of 0 is one
    ∷ answer_text (shown "H 2 1 1 0/Z 0 0/Z 1 0/B 0 0 1 100/C 0 100000 50000 0 0 7000 0 0 20000 0/") is shown "A 0 350 1 0/M 0 0 7000000000 0/R 1/"
    ∷ answer_text (shown "H 2 1 1 0/Z 0 0/Z 1 0/B 0 0 1 100/C 0 100000 50000 0 0 - 0 0 20000 0/") is shown "A 0 250 1 0/M 0 0 5000000000 0/R 1/"
    -- a written 7000 is known from none, and each is written again as it was
    ∷ read_text (shown "H 2 1 1 7000/Z 0 0/Z 1 0/B 0 0 1 100/C 0 100000 50000 0 0 - 0 0 20000 0/") is Ok (table_with (pos 7000) (minus 1))
    ∷ table_text (table_with (pos 7000) (minus 1)) is shown "H 2 1 1 7000/Z 0 0/Z 1 0/B 0 0 1 100/C 0 100000 50000 0 0 - 0 0 20000 0/"
    ∷ read_text (shown "H 2 1 1/Z 0 0/Z 1 0/B 0 0 1 100/C 0 100000 50000 0 0 - 0 0 20000 0/") is Ok (table_with (minus 1) (minus 1))
    ∷ table_text (table_with (minus 1) (minus 1)) is shown "H 2 1 1/Z 0 0/Z 1 0/B 0 0 1 100/C 0 100000 50000 0 0 - 0 0 20000 0/"
    -- 10000 is the last value inside (line 2 is missing); 3 for one more, and 2 for "-", an empty field, a fifth field
    ∷ answer_text (shown "H 2 1 1 10000/") is shown "E 2 2 0/"
    ∷ answer_text (shown "H 2 1 1 10001/") is shown "E 3 1 9/"
    ∷ answer_text (shown "H 2 1 1 -/") is shown "E 2 1 9/"
    ∷ answer_text (shown "H 2 1 1 /") is shown "E 2 1 9/"
    ∷ answer_text (shown "H 2 1 1 7000 7000/") is shown "E 2 1 0/"
    ∷ [])
unfolding computing
defaults = refl
