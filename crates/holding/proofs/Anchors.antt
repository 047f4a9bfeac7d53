-- Small computed works: which row ended a border's rise, and what rows would still allow. Nobody cites them: they refuse a definition that slipped, by the number that comes out.
use Rattle.std.specs.Prelude.{None, Some}
use mathlib.Core.Path.{refl}
use mathlib.Core.List.{List, [], ◌∷◌}
use Prim.Native.Nat.{ℕ}
use lib.IntN.{pos}
use lib.ListN.{get_or}
use Rattle.numbers.specs.Ints.{minus}
use Rattle.numbers.specs.Below.{at, if_zero, sum, count, lesser, least, or_zero, table, first_from}
use Rattle.numbers.specs.Computed.{◌is◌, Hold}
use Rattle.rounds.specs.Rounds.{Grid, State, sharers, raise, raises, load, lowered, risen, apply, next, raised, counted, run, extract}
use Rattle.rounds.specs.Last.{after, raise_in, last_to, last_round}
use Rattle.rounds.specs.Stopping.{stop_row}
use Rattle.holding.specs.Holding.{end_row, allowed, ends_left, row_left}

-- two rows of factors p for two borders
abbrev pub two : (ps : List (List ℕ)) → Grid
two ps = record { rows = 2; borders = 2; p = λ i b. at (get_or ps i []) b }

-- border 0 starts at 5 kW, border 1 at 7 kW
abbrev pub from : (margins : List ℕ) → State
from margins = record { margins = margins; x = 5 ∷ 7 ∷ [] }

-- both borders load row 0, and border 1 alone row 1
abbrev pub nested : List (List ℕ)
nested = (1 ∷ 1 ∷ []) ∷ (0 ∷ 1 ∷ []) ∷ []

-- no row loads border 1
abbrev pub lone : List (List ℕ)
lone = (0 ∷ 0 ∷ []) ∷ (2 ∷ 0 ∷ []) ∷ []

pub anchors : Hold (
    -- of 40 and 3 grains border 0 rises by 20 and border 1 by 3, which empties row 1: it ends border 1's rise, though at the end row 0, which comes first, stops it too
    end_row (two nested) (from (40 ∷ 3 ∷ [])) 1 is Some 1  -- by-its-row
    ∷ end_row (two nested) (from (40 ∷ 3 ∷ [])) 0 is Some 0  -- by-its-one-row
    -- no round raises border 1: row 1 is empty from the start, and row 0 only at the end
    ∷ end_row (two nested) (from (8 ∷ 0 ∷ [])) 1 is Some 1  -- from-the-start
    ∷ end_row (two lone) (from (0 ∷ 7 ∷ [])) 1 is None  -- unloaded
    -- an equal share of 40 grains among 2, by 3 a kW: 6 kW, where the whole margin would allow 13
    ∷ row_left 2 0 40 (allowed 2 40 3) is (pos 2 ∷ pos 40 ∷ pos 6 ∷ [])  -- by-its-share
    -- a row that takes no part has no margin, and one with p = 0 limits nothing
    ∷ row_left 1 2 0 (allowed 1 0 0) is (pos 1 ∷ minus 1 ∷ minus 1 ∷ [])  -- takes-no-part
    ∷ ends_left 5 41 is (pos 5 ∷ pos 41 ∷ [])  -- from-and-to
    ∷ [])
unfolding if_zero sum count lesser least or_zero table first_from sharers raise raises load lowered risen apply next raised counted run extract after raise_in last_to last_round stop_row end_row
anchors = refl
