-- Small computed rounds. Nobody cites them: they refuse a definition that slipped (01, "Slips seen in hand sheets"), by the number that comes out.
use mathlib.Core.Path.{refl}
use mathlib.Core.List.{List, [], ◌∷◌}
use Prim.Native.Nat.{ℕ}
use lib.ListN.{get_or}
use Rattle.numbers.specs.Below.{at, if_zero, sum, count, largest, lesser, least, or_zero, table}
use Rattle.numbers.specs.Computed.{◌is◌, Hold}
use Rattle.rounds.specs.Rounds.{Grid, Outcome, sharers, raise, alone, raises, load, lowered, risen, apply, next, raised, counted, run, extract, most_sharers, bits_to, bits, alone_bits}

-- rows of factors p, one list for each row
abbrev grid : (rows borders : ℕ) → List (List ℕ) → Grid
grid rows borders ps = record { rows = rows; borders = borders; p = λ r b. at (get_or ps r []) b }

-- the rounds from these margins, each exchange from 0
abbrev from : (g : Grid) → (margins : List ℕ) → Outcome
from g margins = extract g (record { margins = margins; x = table g.borders (λ b. 0) })

abbrev ended : (rounds : ℕ) → (margins x : List ℕ) → Outcome
ended rounds margins x = record { rounds = rounds; state = record { margins = margins; x = x } }

-- one row; two borders that load it alike
abbrev alike : Grid
alike = grid 1 2 ((1 ∷ 1 ∷ []) ∷ [])

-- one row; the second border takes three times as much of it
abbrev steep : Grid
steep = grid 1 2 ((1 ∷ 3 ∷ []) ∷ [])

-- row 1 stops border 1
abbrev stopped : Grid
stopped = grid 2 2 ((1 ∷ 1 ∷ []) ∷ (0 ∷ 1 ∷ []) ∷ [])

pub anchors : Hold (
    -- n is the count of borders with p > 0 and never changes: 4 gives each border 2, of which border 1 cannot take 3; of 2 border 0 gets 1, and 1 is left.
    -- Among the borders that can still rise alone, border 0 would get both of the 2, and nothing would be left
    from steep (4 ∷ []) is ended 2 (1 ∷ []) (3 ∷ 0 ∷ [])  -- n-stays
    -- n does not change either where another row has stopped a border: 4, 2, 1, and not 8 at once
    ∷ from stopped (8 ∷ 0 ∷ []) is ended 3 (1 ∷ 0 ∷ []) (7 ∷ 0 ∷ [])  -- n-stays-stopped
    -- all raises are found from the margins at the start of the round: both borders rise by 2
    ∷ from alike (4 ∷ []) is ended 1 (0 ∷ []) (2 ∷ 2 ∷ [])  -- at-once
    -- exchanges are kW from round to round, and not cut to MW: of 3001 grains 1500, 750, 375 and so on
    ∷ from stopped (3001 ∷ 0 ∷ []) is ended 12 (1 ∷ 0 ∷ []) (3000 ∷ 0 ∷ [])  -- kw-kept
    -- both divisions round down, by n and then by p: 7 is 3 for each, and 3 is 1 for a border that takes 3
    ∷ raises steep (7 ∷ []) is (3 ∷ 1 ∷ [])  -- floors
    -- the smallest over the rows with p > 0
    ∷ raises stopped (8 ∷ 3 ∷ []) is (4 ∷ 3 ∷ [])  -- smallest
    -- every row loses the sum of p times raise
    ∷ next steep (record { margins = 7 ∷ []; x = 10 ∷ 20 ∷ [] }) is (record { margins = 1 ∷ []; x = 13 ∷ 21 ∷ [] })  -- loses
    -- a round that raises nothing is not counted
    ∷ from alike (1 ∷ []) is ended 0 (1 ∷ []) (0 ∷ 0 ∷ [])  -- not-counted
    -- N, the most borders that one row shares among; L, the least number with each raise alone under 2^L: 8 and 3 alone, 8 < 2^4
    ∷ most_sharers stopped is 2  -- n-most
    ∷ alone_bits stopped (8 ∷ 3 ∷ []) is 4  -- l-least
    ∷ alone_bits stopped (0 ∷ 0 ∷ []) is 0  -- l-zero
    ∷ [])
unfolding if_zero sum count largest lesser least or_zero table sharers raise alone raises load lowered risen apply next raised counted run extract most_sharers bits_to bits alone_bits
anchors = refl
