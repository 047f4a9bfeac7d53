-- Small computed works with the last round and the stopping row of each border (02, E7). Nobody cites them: they refuse a definition that slipped, by the number that comes out.
use Rattle.std.specs.Prelude.{None, Option, Some}
use mathlib.Core.Path.{refl}
use mathlib.Core.List.{List, [], ◌∷◌}
use Prim.Native.Nat.{ℕ}
use lib.ListN.{get_or}
use Rattle.numbers.specs.Below.{at, if_zero, sum, count, lesser, least, or_zero, table, first_from}
use Rattle.numbers.specs.Computed.{◌is◌, Hold}
use Rattle.rounds.specs.Rounds.{Grid, State, sharers, raise, raises, load, lowered, risen, apply, next, raised, counted, run, extract}
use Rattle.rounds.specs.Last.{after, raise_in, last_to, last_round, last_rounds}
use Rattle.rounds.specs.Stopping.{stop_row, stop_rows}
use Rattle.rounds.specs.AllRounds.{stop_by}

-- rows of factors p, one list for each row; the margins, each exchange from 0
abbrev grid : (rows borders : ℕ) → List (List ℕ) → Grid
grid rows borders ps = record { rows = rows; borders = borders; p = λ i b. at (get_or ps i []) b }

abbrev from : Grid → (margins : List ℕ) → State
from g margins = record { margins = margins; x = table g.borders (λ b. 0) }

abbrev lasts : Grid → (margins : List ℕ) → List ℕ
lasts g margins = last_rounds g (from g margins)

abbrev stops : Grid → (margins : List ℕ) → List (Option ℕ)
stops g margins = stop_rows g (extract g (from g margins)).state.margins

-- one row; the second border takes three times as much of it
abbrev steep : Grid
steep = grid 1 2 ((1 ∷ 3 ∷ []) ∷ [])

-- three rows that border 1 loads; the first of them does not load border 0
abbrev three : Grid
three = grid 3 2 ((0 ∷ 1 ∷ []) ∷ (1 ∷ 1 ∷ []) ∷ (1 ∷ 1 ∷ []) ∷ [])

-- no row loads border 1, and no border loads row 0
abbrev lone : Grid
lone = grid 2 2 ((0 ∷ 0 ∷ []) ∷ (2 ∷ 0 ∷ []) ∷ [])

pub anchors_stopped : Hold (
    -- of 40 grains border 0 rises by 20 and border 1 by 6; of the 2 that are left border 0 rises by 1, and border 1 by nothing: rounds 2 and 1, not 2 and 2, nor 3 and 2
    lasts steep (40 ∷ []) is (2 ∷ 1 ∷ [])  -- each-its-own
    -- no round is counted: 0
    ∷ lasts steep (1 ∷ []) is (0 ∷ 0 ∷ [])  -- no-round
    -- border 1 never rises, though three rounds are counted
    ∷ lasts three (0 ∷ 8 ∷ 8 ∷ []) is (3 ∷ 0 ∷ [])  -- never
    -- at the end rows 0, 1 and 2 hold 0, 1 and 1 grains, shares 0: row 0 is the first for border 1, and row 1 for border 0, which row 0 does not load
    ∷ stops three (0 ∷ 8 ∷ 8 ∷ []) is (Some 1 ∷ Some 0 ∷ [])  -- first-rows
    -- a row whose share holds one kW stops nothing: from row 0's 3 grains border 1 rises by 3, then row 1 has 2, row 2 has 1
    ∷ stop_row three (1 ∷ 2 ∷ 1 ∷ []) 1 is Some 2  -- share-of-one
    -- 1 grain among one border that takes 2 a kW: under one kW, and 2 grains are one kW
    ∷ stop_row lone (9 ∷ 1 ∷ []) 0 is Some 1  -- under-one
    ∷ stop_row lone (9 ∷ 2 ∷ []) 0 is None  -- one
    -- a border that no row loads: never raised, stopped by no row
    ∷ lasts lone (0 ∷ 7 ∷ []) is (1 ∷ 0 ∷ [])  -- unloaded
    ∷ stops lone (0 ∷ 7 ∷ []) is (Some 1 ∷ None ∷ [])  -- unstopped
    -- by the shares alone
    ∷ stop_by three (1 ∷ 1 ∷ 0 ∷ []) 0 is Some 2  -- by-shares
    ∷ [])
unfolding if_zero sum count lesser least or_zero table first_from sharers raise raises load lowered risen apply next raised counted run extract after raise_in last_to last_round stop_row stop_by
anchors_stopped = refl
