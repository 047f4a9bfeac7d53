-- A small table, and what the rounds start from with any states and starting margins. Nobody cites it: it refuses a definition that slipped, by the number that comes out.
use Rattle.std.specs.Prelude.{Err, Ok}
use mathlib.Core.Path.{refl}
use mathlib.Core.List.{List, [], ◌∷◌}
use Prim.Native.Nat.{ℕ}
use lib.IntN.{ℤ, pos}
use Rattle.numbers.specs.Below.{table, first_from, given}
use Rattle.numbers.specs.Ints.{minus, positive_part}
use Rattle.numbers.specs.Computed.{◌is◌, Hold}
use Rattle.refusals.specs.Refusals.{Judged, unless, refuse_at, refuse_first, below_zero, no_row, unlimited}
use Rattle.types.specs.declared.Header.{Header}
use Rattle.types.specs.Ranges.{hubs_of, border_of}
use Rattle.tablerules.specs.Table.{stretch}
use Rattle.marginrules.specs.Margin.{signed_factor, p_of, lta_kw}
use Rattle.marks.specs.Marks.{flagged}
use Rattle.setup.specs.Setup.{grid_by, begin_by, judge_by}
use Rattle.staterules.specs.States.{kept}
use Rattle.extractrules.specs.Start.{every, grid_of, start_of, judge_start, setup_with}
use Rattle.extractrules.specs.Filled.{cells}

abbrev header_in : (mark rows : ℕ) → Header
header_in mark rows = record { zones = 2; borders = 2; rows = rows; share = minus 1; intraday = mark }

abbrev header : (rows : ℕ) → Header
header rows = header_in 0 rows

-- border 0 to 1 has 1 MW; the way back has none
abbrev borders : List (List ℤ)
borders = (pos 0 ∷ pos 1 ∷ pos 1 ∷ minus 1 ∷ minus 1 ∷ []) ∷ (pos 1 ∷ pos 0 ∷ pos 0 ∷ minus 1 ∷ minus 1 ∷ []) ∷ []

-- judging one row, which loads border 0 alone
abbrev one : (states : List ℕ) → (starts : List ℤ) → Judged (List ℕ)
one states starts = judge_start every (header 1) borders (pos 20000 ∷ pos 0 ∷ []) states starts

-- three rows: row 1 loads border 1, and row 2 has the factors of row 0
abbrev factors : List ℤ
factors = pos 20000 ∷ pos 0 ∷ pos 0 ∷ pos 20000 ∷ pos 20000 ∷ pos 0 ∷ []

abbrev three : (states : List ℕ) → (starts : List ℤ) → Judged (List ℕ)
three states starts = judge_start every (header 3) borders factors states starts

pub anchors : Hold (
    -- 5 before 6, and 6 before 7: no row loads border 1, and row 0 starts below 0
    one (1 ∷ []) (minus 1 ∷ []) is Err (no_row)  -- five-first
    ∷ one (0 ∷ []) (minus 1 ∷ []) is Err (unlimited 1)  -- six-first
    -- 7: the first kept row that starts below 0
    ∷ three (0 ∷ 0 ∷ 0 ∷ []) (pos 0 ∷ minus 1 ∷ minus 1 ∷ []) is Err (below_zero 1)  -- seven
    -- 6 and 7 look at kept rows alone
    ∷ three (0 ∷ 2 ∷ 0 ∷ []) (pos 0 ∷ pos 0 ∷ pos 0 ∷ []) is Err (unlimited 1)  -- six-kept
    ∷ three (0 ∷ 0 ∷ 2 ∷ []) (pos 0 ∷ pos 0 ∷ minus 1 ∷ []) is Ok (0 ∷ 0 ∷ 2 ∷ [])  -- seven-kept
    -- each border starts at its LTA, a kept row where it is given, and a row of state 2 takes no part
    ∷ start_of (header 3) borders (0 ∷ 0 ∷ 2 ∷ []) (pos 7 ∷ pos 9 ∷ pos 8 ∷ []) is (record { margins = 7 ∷ 9 ∷ 0 ∷ []; x = 1000 ∷ 0 ∷ [] })  -- starts
    -- in the intraday profile (02, E12) each border starts at 0 kW, a margin below 0 counts as 0, and 7 is not given; 6 is
    ∷ start_of (header_in 1 3) borders (0 ∷ 0 ∷ 2 ∷ []) (pos 7 ∷ minus 9 ∷ pos 8 ∷ []) is (record { margins = 7 ∷ 0 ∷ 0 ∷ []; x = 0 ∷ 0 ∷ [] })  -- intraday
    ∷ judge_start every (header_in 1 3) borders factors (0 ∷ 0 ∷ 0 ∷ []) (pos 0 ∷ minus 1 ∷ minus 1 ∷ []) is Ok (0 ∷ 0 ∷ 0 ∷ [])  -- no-seven
    ∷ judge_start every (header_in 1 3) borders factors (0 ∷ 2 ∷ 0 ∷ []) (pos 0 ∷ minus 1 ∷ minus 1 ∷ []) is Err (unlimited 1)  -- six-too
    -- the table of p, row after row and border after border; a row that takes no part has zeros
    ∷ cells (grid_of every (header 3) borders (pos 20000 ∷ pos 0 ∷ pos 0 ∷ pos 30000 ∷ pos 50000 ∷ pos 10000 ∷ []) (0 ∷ 0 ∷ 2 ∷ [])) is (20000 ∷ 0 ∷ 0 ∷ 30000 ∷ 0 ∷ 0 ∷ [])  -- laid-out
    -- with marks (02, E13): p is 0 at a border that is not marked, and 6 does not look at it; 5 and 7 do not change
    ∷ cells (grid_of (flagged (1 ∷ 0 ∷ [])) (header 3) borders (pos 20000 ∷ pos 0 ∷ pos 0 ∷ pos 30000 ∷ pos 50000 ∷ pos 10000 ∷ []) (0 ∷ 0 ∷ 0 ∷ [])) is (20000 ∷ 0 ∷ 0 ∷ 0 ∷ 40000 ∷ 0 ∷ [])  -- marked
    ∷ judge_start (flagged (1 ∷ 0 ∷ [])) (header 1) borders (pos 20000 ∷ pos 0 ∷ []) (0 ∷ []) (pos 0 ∷ []) is Ok (0 ∷ [])  -- six-marked
    ∷ judge_start (flagged (0 ∷ 1 ∷ [])) (header 1) borders (pos 20000 ∷ pos 0 ∷ []) (0 ∷ []) (pos 0 ∷ []) is Err (unlimited 1)  -- six-other
    ∷ judge_start (flagged (1 ∷ 0 ∷ [])) (header 3) borders factors (0 ∷ 0 ∷ 0 ∷ []) (pos 0 ∷ minus 1 ∷ pos 0 ∷ []) is Err (below_zero 1)  -- seven-marked
    ∷ [])
unfolding flagged table first_from given positive_part hubs_of border_of unless refuse_at refuse_first stretch signed_factor p_of lta_kw kept grid_of start_of judge_start grid_by setup_with begin_by judge_by
anchors = refl
