-- What a border's reasons say, in the words of the table and of its result: the statements, proved of every accepted table (theorems: proofs/Explained). Rows, states, factors, RAM
-- and S are the table's own, so that no wrong record makes a statement weaker.
use Rattle.std.specs.Prelude.{◌≡◌, Bool, true, false, ℕ, ◌+◌, ◌*◌, ◌-◌, ◌/◌, ◌≤◌, ◌<◌, pos, ◌+ℤ◌, get_or, None, Some}
use Rattle.numbers.specs.Ints.{positive_part}
use Rattle.numbers.specs.Below.{at, sum}
use Rattle.types.specs.Ranges.{is_intraday}
use Rattle.tablerules.specs.Table.{Table, border_at, factors_at}
use Rattle.rounds.specs.Rounds.{sharers}
use Rattle.rounds.specs.Last.{after, LastRaise}
use Rattle.marginrules.specs.Margin.{p_of, s_at, ram_at}
use Rattle.staterules.specs.Standings.{standings_of}
use Rattle.staterules.specs.States.{kept}
use Rattle.extractrules.specs.Start.{grid_marked, table_start}
use Rattle.extractrules.specs.Extraction.{Result, last_of, stop_of}
use Rattle.promises.specs.Demand.{remainder_of}
use Rattle.why.specs.Why.{Why}

-- ---- the row that ended a border's rise
-- what border b could rise by from row i's equal share of its margin after the border's last round, whole kW: shared among the marked borders
abbrev pub share_then : Table → (marked : ℕ → Bool) → (last : ℕ) → (b i : ℕ) → ℕ
share_then t marked last b i = at (after (grid_marked marked t) (table_start t) last).margins i / sharers (grid_marked marked t) i / p_of (factors_at t i) (border_at t b)

-- row i is the first kept row with p > 0 whose equal share after round `last` is under one kW for border b
pub record EndedBy (t : Table) (marked : ℕ → Bool) (last b i : ℕ) : Type 0 where
  pub row : i < t.header.rows
  pub takes : kept (standings_of t).states i ≡ true
  pub loads : 0 < p_of (factors_at t i) (border_at t b)
  pub under : share_then t marked last b i < 1
  pub first : (j : ℕ) → j < i → kept (standings_of t).states j ≡ true → 0 < p_of (factors_at t j) (border_at t b) → 1 ≤ share_then t marked last b j

-- of a marked border: there is such a row, and the reasons have it; the round is the last in which the rules raise the border
pub record BorderEnded (t : Table) (marked : ℕ → Bool) (w : Why) (b : ℕ) : Type 0 where
  pub row : ℕ
  pub found : w.ended ≡ Some row
  pub ended : EndedBy t marked w.last b row
  pub last : LastRaise (grid_marked marked t) (table_start t) b w.outcome.rounds w.last
  -- it holds the border at the end too
  pub still_holds : get_or w.allows row None ≡ Some 0

-- a border that is not marked: no round raised it, and no row is named
pub record NotEnded (w : Why) : Type 0 where
  pub last : w.last ≡ 0
  pub named : w.named ≡ None
  pub ended : w.ended ≡ None

-- ---- what the reasons share with the result
pub record AsResult (r : Result) (w : Why) (b : ℕ) : Type 0 where
  pub outcome : w.outcome ≡ r.outcome
  pub p : w.p ≡ r.p
  pub last : w.last ≡ last_of r b
  pub named : w.named ≡ stop_of r b

-- ---- the explanation adds up, to the grain
-- what the borders used of row i in the rounds: p times what each rose by, summed
abbrev pub used_of : Table → Why → (i : ℕ) → ℕ
used_of t w i = sum t.header.borders (λ c. p_of (factors_at t i) (border_at t c) * (at w.outcome.state.x c - at w.start.x c))

-- of a kept row: RAM is what the rights take, what the borders used, and what is left; intraday the remainder, which is taken as 0 where negative, is what the borders used and what is left
pub record AddsUp (t : Table) (w : Why) (i : ℕ) : Type 0 where
  pub day_ahead : is_intraday t.header ≡ false → ram_at t i ≡ pos (s_at t.header t.borders t.factors i) +ℤ pos (used_of t w i) +ℤ pos (at w.outcome.state.margins i)
  pub intraday : is_intraday t.header ≡ true → positive_part (remainder_of t i) ≡ used_of t w i + at w.outcome.state.margins i

-- ---- which rows hold a border at the end
-- row i's equal share of its margin left, for border b, whole kW
abbrev pub share_at_end : Table → (marked : ℕ → Bool) → Why → (b i : ℕ) → ℕ
share_at_end t marked w b i = at w.outcome.state.margins i / sharers (grid_marked marked t) i / p_of (factors_at t i) (border_at t b)

-- of a marked border and any row: what is said to be allowed is the share of a kept row that loads it, and is said of each such row; so the rows that hold it are those with 0 kW
pub record Allows (t : Table) (marked : ℕ → Bool) (w : Why) (b i : ℕ) : Type 0 where
  pub said : (kw : ℕ) → get_or w.allows i None ≡ Some kw → (kept (standings_of t).states i ≡ true) × (0 < p_of (factors_at t i) (border_at t b)) × (kw ≡ share_at_end t marked w b i)
  pub each : kept (standings_of t).states i ≡ true → 0 < p_of (factors_at t i) (border_at t b) → get_or w.allows i None ≡ Some (share_at_end t marked w b i)

-- the row that the result names is among those that hold the border
abbrev pub NamedHolds : Why → Type 0
NamedHolds w = (i : ℕ) → w.named ≡ Some i → get_or w.allows i None ≡ Some 0
