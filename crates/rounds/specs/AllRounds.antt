-- What the functions of crate grid ask, and what the whole work (`roundloop::extract_rounds`) asks and leaves, over a grid g. What it leaves is `work_of`, by `extract` of Rounds.antt.
use Rattle.std.specs.Prelude.{◌≡◌, List, ℕ, ◌+◌, ◌*◌, ◌^◌, ◌≤◌, ◌<◌, ltb, length, take, Option}
use Rattle.numbers.specs.Below.{at, if_zero, first_from, table, over}
use Rattle.rounds.specs.declared.Final.{Final}
use Rattle.rounds.specs.Rounds.{Grid, State, sharers, load, Outcome, extract}
use Rattle.rounds.specs.Last.{last_rounds}

-- the grid of a flat table of factors, row after row
abbrev pub flat : (rows borders : ℕ) (p : List ℕ) → Grid
flat rows borders p = record { rows = rows; borders = borders; p = λ i b. at p (i * borders + b) }

-- ns holds n of each row, and m a margin of each row
pub record Ready (g : Grid) (ns m : List ℕ) : Type 0 where
  pub counts : ns ≡ table g.rows (sharers g)
  pub margins : length m ≡ g.rows

-- border b's last round, once a round raises by v
unfoldable pub noted : (round : ℕ) (v lasts : List ℕ) (b : ℕ) → ℕ
noted round v lasts b = if_zero (at v b) (at lasts b) round

-- the row that stopped border b, by the rows' equal shares and with no division: one kW of b takes p grains of a row
unfoldable pub stop_by : Grid → (shares : List ℕ) → (b : ℕ) → Option ℕ
stop_by g shares b = first_from g.rows 0 (λ i. ltb (at shares i) (g.p i b))

-- what the whole work asks: n of each row, room for the borders, and that each row's margin and load together fit a u64
pub record Startable (g : Grid) (ns m x : List ℕ) : Type 0 where
  pub ready : Ready g ns m
  pub borders : g.borders ≤ length x
  pub fits : (i : ℕ) → i < g.rows → at m i + load g i x < 2 ^ 64

-- where the work stands: the margins, and of x an exchange for each border
abbrev pub state_from : Grid → (m x : List ℕ) → State
state_from g m x = record { margins = m; x = take g.borders x }

-- what the work leaves: its answer, the lent margins, and each border's last round
pub record WorkLeft : Type 0 where
  pub answer : Final
  pub margins : List ℕ
  pub lasts : List ℕ

abbrev pub work_left : Final → (m lasts : List ℕ) → WorkLeft
work_left r m lasts = record { answer = r; margins = m; lasts = lasts }

-- what the work leaves of an outcome, in the array x
abbrev pub left_by : Outcome → (x lasts : List ℕ) → WorkLeft
left_by o x lasts = work_left (record { x = over o.state.x x; rounds = o.rounds }) o.state.margins lasts

-- the definition's rounds, margins, exchanges and last rounds; items of x beyond the borders are not changed
unfoldable pub work_of : Grid → (m x : List ℕ) → WorkLeft
work_of g m x = left_by (extract g (state_from g m x)) x (last_rounds g (state_from g m x))
