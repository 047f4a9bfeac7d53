-- The bound of small grids beside the rounds that they take, and of the hour that 01 checks whole, computed. Nobody cites them: they refuse a definition that slipped.
-- The small ones come first: a share that takes nothing would keep the hour's steps going for millions.
use mathlib.Core.Path.{refl}
use mathlib.Core.List.{List, [], ◌∷◌}
use Prim.Native.Nat.{ℕ}
use lib.ListN.{get_or}
use Rattle.numbers.specs.Below.{at, if_zero, sum, count, largest, lesser, least, or_zero, table}
use Rattle.numbers.specs.Computed.{◌is◌, Hold}
use Rattle.rounds.specs.Rounds.{Grid, sharers, raise, alone, raises, load, lowered, risen, apply, next, raised, counted, run, extract, most_sharers, bits_to, bits, alone_bits}
use Rattle.tightrules.specs.Tight.{equal_share_up, cut, steps_within, steps, row_reach, reach, farthest, tight_bound}
use Rattle.tightrules.specs.Measure.{bound_by}

-- rows of factors p, one list for each row
abbrev grid : (rows borders : ℕ) → List (List ℕ) → Grid
grid rows borders ps = record { rows = rows; borders = borders; p = λ i b. at (get_or ps i []) b }

-- the rounds from these margins, each exchange from 0
abbrev rounds : Grid → (margins : List ℕ) → ℕ
rounds g margins = (extract g (record { margins = margins; x = table g.borders (λ b. 0) })).rounds

-- what is computed of a start: the rounds, the bound, and of the bound N and U
pub record Found : Type 0 where
  pub rounds : ℕ
  pub most : ℕ
  pub n : ℕ
  pub u : ℕ

abbrev found : (rounds most n u : ℕ) → Found
found rounds most n u = record { rounds = rounds; most = most; n = n; u = u }

abbrev from : Grid → (margins : List ℕ) → Found
from g margins = found (rounds g margins) (tight_bound g margins) (most_sharers g) (farthest g margins)

-- one row and one border
abbrev lone : Grid
lone = grid 1 1 ((3 ∷ []) ∷ [])

-- one row; two borders that load it alike
abbrev alike : Grid
alike = grid 1 2 ((1 ∷ 1 ∷ []) ∷ [])

-- one row; the second border takes three times as much of it
abbrev steep : Grid
steep = grid 1 2 ((1 ∷ 3 ∷ []) ∷ [])

-- row 1 stops border 1
abbrev stopped : Grid
stopped = grid 2 2 ((1 ∷ 1 ∷ []) ∷ (0 ∷ 1 ∷ []) ∷ [])

-- row 1 stops borders 1 and 2, so that border 0 is one of three sharers and rises alone
abbrev third : Grid
third = grid 2 3 ((1 ∷ 1 ∷ 1 ∷ []) ∷ (0 ∷ 1 ∷ 1 ∷ []) ∷ [])

-- row 1 stops border 0, and border 1 rises alone
abbrev turned : Grid
turned = grid 2 2 ((1 ∷ 1 ∷ []) ∷ (1 ∷ 0 ∷ []) ∷ [])

-- the kept rows of 01's hour
abbrev hour : Grid
hour = grid 2 2 ((20000 ∷ 10000 ∷ []) ∷ (0 ∷ 5000 ∷ []) ∷ [])

abbrev hour_margins : List ℕ
hour_margins = 66000000000 ∷ 8000000000 ∷ []

pub anchors : Hold (
    -- the equal share is rounded up
    equal_share_up 3 7 is 3  -- shared
    ∷ equal_share_up 3 6 is 2  -- shared-whole
    ∷ cut 3 7 is 4  -- left
    -- one border and one row: 1, or 0 where nothing can rise
    ∷ from lone (7 ∷ []) is found 1 1 1 2  -- once
    ∷ from lone (2 ∷ []) is found 0 0 1 0  -- never
    -- the other sharer's 1 kW is taken off: of 1 grain among two nothing rises. 2 N L is 4
    ∷ from alike (1 ∷ []) is found 0 0 2 0  -- other-sharer
    -- all rise at once, and the bound does not know it
    ∷ from alike (4 ∷ []) is found 1 2 2 3  -- at-once
    -- attained: 3, 1
    ∷ from steep (4 ∷ []) is found 2 2 2 3  -- two
    -- attained by the raises 7, 3, 1: each is a share of what is left, rounded up
    ∷ from stopped (8 ∷ 0 ∷ []) is found 3 3 2 7  -- three
    -- attained by the same raises of the last border
    ∷ from turned (8 ∷ 0 ∷ []) is found 3 3 2 7  -- three-turned
    -- attained by the raises 3000, 1500, 750 and so on, where 2 N L is 48
    ∷ from stopped (3001 ∷ 0 ∷ []) is found 12 12 2 3000  -- twelve
    -- attained among three sharers by the raises 998, 665, 443 and so on
    ∷ from third (1000 ∷ 0 ∷ []) is found 16 16 3 998  -- thirds
    -- the row that leaves less decides: 5 of row 0, 3 of row 1
    ∷ reach stopped (6 ∷ 3 ∷ []) 1 is 3  -- least-row
    -- 01: N = 2, L = 22, bound 88; the sharper bound is 22, and it takes 21 rounds
    ∷ from hour hour_margins is found 21 22 2 3299999  -- worked
    ∷ bound_by hour hour_margins is (record { sharers = 2; bits = 22; rounds = 88; sharp = 22 })  -- measured
    -- steps of 40 and of 64 borders from the largest start without T lines, 165,000,000,000,000 grains: hours/worst.tsv and hours/worst64.tsv take as many rounds
    ∷ steps 40 165000000000000 is 1171  -- worst-40
    ∷ steps 64 165000000000000 is 1852  -- worst-64
    ∷ [])
unfolding if_zero sum count largest lesser least or_zero table sharers raise alone raises load lowered risen apply next raised counted run extract most_sharers bits_to bits alone_bits equal_share_up cut steps_within steps row_reach reach farthest tight_bound bound_by
anchors = refl
