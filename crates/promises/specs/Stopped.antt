-- 02, E7: which row stopped a border, and which round raised it last, in the words of the table and of its result, with any borders marked (02, E13). The statements,
-- proved of every accepted table (crate theorems, proofs/Stopped). Rows, states and factors are the table's own.
use Rattle.std.specs.Prelude.{◌≡◌, Bool, true, List, [], ℕ, ◌/◌, ◌≤◌, ◌<◌, ℤ, pos, get_or, None, Some}
use Rattle.numbers.specs.Ints.{minus}
use Rattle.types.specs.Ranges.{at_ℤ}
use Rattle.tablerules.specs.Table.{Table, border_at, factors_at}
use Rattle.rounds.specs.Rounds.{sharers}
use Rattle.rounds.specs.Last.{LastRaise}
use Rattle.marginrules.specs.Margin.{p_of}
use Rattle.staterules.specs.Standings.{standings_of}
use Rattle.staterules.specs.States.{kept}
use Rattle.extractrules.specs.Start.{grid_marked, table_start}
use Rattle.extractrules.specs.Extraction.{Result, result_marked, left_of, last_of, stop_of}

-- what border b could rise by from row i's equal share of its margin left, whole kW: shared among the marked borders
abbrev pub share_kw : Table → (marked : ℕ → Bool) → Result → (b i : ℕ) → ℕ
share_kw t marked r b i = left_of r i / sharers (grid_marked marked t) i / p_of (factors_at t i) (border_at t b)

-- row i is the first kept row with p > 0 whose equal share at the end is under one kW for border b
pub record StoppedBy (t : Table) (marked : ℕ → Bool) (r : Result) (b i : ℕ) : Type 0 where
  pub row : i < t.header.rows
  pub takes : kept (standings_of t).states i ≡ true
  pub loads : 0 < p_of (factors_at t i) (border_at t b)
  pub under : share_kw t marked r b i < 1
  pub first : (j : ℕ) → j < i → kept (standings_of t).states j ≡ true → 0 < p_of (factors_at t j) (border_at t b) → 1 ≤ share_kw t marked r b j

-- what is known of a marked border
pub record BorderStopped (t : Table) (marked : ℕ → Bool) (r : Result) (b : ℕ) : Type 0 where
  -- some row stopped it, and the result has this row
  pub row : ℕ
  pub found : stop_of r b ≡ Some row
  pub stopped : StoppedBy t marked r b row
  -- the result's last round is the last one in which the rules raise the border, or 0
  pub last : LastRaise (grid_marked marked t) (table_start t) b r.outcome.rounds (last_of r b)

-- a border that is not marked was never raised, and no row stopped it
pub record Unmarked (r : Result) (b : ℕ) : Type 0 where
  pub last : last_of r b ≡ 0
  pub stop : stop_of r b ≡ None

-- the last round and the row, as the lent results hold them
abbrev pub last_in : (atcs : List (List ℤ)) → (b : ℕ) → ℤ
last_in atcs b = at_ℤ (get_or atcs b []) 1

abbrev pub row_in : (atcs : List (List ℤ)) → (b : ℕ) → ℤ
row_in atcs b = at_ℤ (get_or atcs b []) 2

-- a marked border's last round and row, as the lent results hold them
pub record LeftStopped (t : Table) (marked : ℕ → Bool) (atcs : List (List ℤ)) (b : ℕ) : Type 0 where
  pub of_result : BorderStopped t marked (result_marked marked t) b
  pub row_left_lem : row_in atcs b ≡ pos of_result.row
  pub last_left : last_in atcs b ≡ pos (last_of (result_marked marked t) b)

-- a border that is not marked, in the lent results: last round 0, and row -1 for "-"
pub record LeftUnmarked (atcs : List (List ℤ)) (b : ℕ) : Type 0 where
  pub row_left_lem : row_in atcs b ≡ minus 1
  pub last_left : last_in atcs b ≡ pos 0
