-- Which row stopped a border (02, E7): the first with p > 0 whose equal share of its margin left is under one kW for that border.
-- A row that takes no part has p = 0 at every border, so it stops none; a border with p = 0 at every row was stopped by none.
-- `stop_rows` and `equal_share` are what contracts cite; `Stops` says what the row is, and is proved of every work (crate theorems, `stop-row`).
use Rattle.std.specs.Prelude.{Bool, ◌&&◌, List, ℕ, ◌/◌, ◌≤◌, ◌<◌, ltb, Option}
use Rattle.numbers.specs.Below.{at, first_from, table}
use Rattle.rounds.specs.Rounds.{Grid, sharers}

-- row i's equal share of its margin left, grains
abbrev pub equal_share : Grid → (left : List ℕ) → (i : ℕ) → ℕ
equal_share g left i = at left i / sharers g i

-- what border b could rise by from row i's equal share, whole kW
abbrev pub equal_share_kw : Grid → (left : List ℕ) → (b i : ℕ) → ℕ
equal_share_kw g left b i = equal_share g left i / g.p i b

abbrev pub stopping : Grid → (left : List ℕ) → (b i : ℕ) → Bool
stopping g left b i = ltb 0 (g.p i b) && ltb (equal_share_kw g left b i) 1

unfoldable pub stop_row : Grid → (left : List ℕ) → (b : ℕ) → Option ℕ
stop_row g left b = first_from g.rows 0 (stopping g left b)

-- the row that stopped each border
abbrev pub stop_rows : Grid → (left : List ℕ) → List (Option ℕ)
stop_rows g left = table g.borders (stop_row g left)

-- row i is the first that loads border b and leaves it less than one kW
pub record Stops (g : Grid) (left : List ℕ) (b i : ℕ) : Type 0 where
  pub row : i < g.rows
  pub loads : 0 < g.p i b
  pub under : equal_share_kw g left b i < 1
  pub first : (j : ℕ) → j < i → 0 < g.p j b → 1 ≤ equal_share_kw g left b j
