-- A sharper bound of the rounds than 2 N L, known before the first of them. A border that rises in the last round rises in every one, each time by at least
-- the N-th part, rounded up, of what it still rises by; and what it rises by in all is no more than each row leaves it beside 1 kW for each other sharer.
-- `steps` and `reach` are what contracts cite, and `tight_bound` as a part of `bound_by` (`Measure.antt`). That the rounds are at most this: crate worst, `few-rounds`.
use Rattle.std.specs.Prelude.{List, ℕ, zero, suc, ◌+◌, ◌-◌, ◌/◌}
use Rattle.numbers.specs.Below.{at, largest, least, or_zero}
use Rattle.rounds.specs.Rounds.{Grid, sharers, most_sharers}

-- the equal share of u among n, rounded up
unfoldable pub equal_share_up : (n u : ℕ) → ℕ
equal_share_up n u = (u + (n - 1)) / n

-- u less its equal share among n, rounded up
unfoldable pub cut : (n u : ℕ) → ℕ
cut n u = u - equal_share_up n u

-- how often u is cut until it is 0, and no oftener than the fuel
unfoldable pub steps_within : (fuel n u : ℕ) → ℕ
steps_within zero n u = 0
steps_within (suc fuel) n zero = 0
steps_within (suc fuel) n (suc u) = suc (steps_within fuel n (cut n (suc u)))

-- how often u is cut until it is 0. The fuel u suffices, since a cut takes at least 1
unfoldable pub steps : (n u : ℕ) → ℕ
steps n u = steps_within u n u

-- what row i lets border b rise by in all rounds together, kW: in the last that raises b, each of the row's other sharers has 1 kW or more of b's
unfoldable pub row_reach : Grid → (m : List ℕ) (b i : ℕ) → ℕ
row_reach g m b i = at m i / g.p i b - (sharers g i - 1)

-- what border b can rise by in all rounds together, kW: the smallest over the rows that load b; 0 where none does
unfoldable pub reach : Grid → (m : List ℕ) (b : ℕ) → ℕ
reach g m b = or_zero (least g.rows (λ i. g.p i b) (row_reach g m b))

-- U: the largest over the borders
unfoldable pub farthest : Grid → (m : List ℕ) → ℕ
farthest g m = largest g.borders (reach g m)

-- the bound, of the margins at the start
unfoldable pub tight_bound : Grid → (m : List ℕ) → ℕ
tight_bound g m = steps (most_sharers g) (farthest g m)
