-- What the rounds of a grid say of one border, and the records of it: the row that ended its rise, what each row would still allow it, where each border started and ended.
use Rattle.std.specs.Prelude.{◌≡◌, cond, List, [], ◌∷◌, ℕ, ◌/◌, ltb, ℤ, pos, None, Option, Some}
use Rattle.numbers.specs.Ints.{minus}
use Rattle.numbers.specs.Below.{at, table}
use Rattle.rounds.specs.declared.Final.{Final}
use Rattle.rounds.specs.Rounds.{Grid, State, sharers}
use Rattle.rounds.specs.Last.{after, last_round}
use Rattle.rounds.specs.Stopping.{stop_row}
use Rattle.rounds.specs.AllRounds.{work_left, work_of}
use Rattle.outcome.specs.Outcome.{left_of_margin}
use Rattle.replay.specs.Replay.{margins_after}

-- the row that ended border b's rise: the first with p > 0 whose equal share after the border's last round is under one kW for it
unfoldable pub end_row : Grid → State → (b : ℕ) → Option ℕ
end_row g s b = stop_row g (after g s (last_round g s b)).margins b

-- what an equal share of a margin among n would still allow a border of factor p in one round, whole kW; none where p is 0, since the row does not limit it
abbrev pub allowed : (n margin p : ℕ) → Option ℕ
allowed n margin p = cond (ltb 0 p) (Some (margin / n / p)) None

-- what row i would still allow border b, of its margin left
abbrev pub allowed_by : Grid → (left : List ℕ) → (b i : ℕ) → Option ℕ
allowed_by g left b i = allowed (sharers g i) (at left i) (g.p i b)

-- ---- as records
-- a border's record: where it started and ended, kW
abbrev pub ends_left : (from to : ℕ) → List ℤ
ends_left from to = pos from ∷ pos to ∷ []

-- a row's record: n; margin left, grains, or -1 where the state is not 0; what it would still allow the border, kW, or -1 where it does not limit it
abbrev pub kw_or_dash : Option ℕ → ℤ
kw_or_dash None = minus 1
kw_or_dash (Some kw) = pos kw

abbrev pub row_left : (n state margin : ℕ) → (allows : Option ℕ) → List ℤ
row_left n state margin allows = pos n ∷ left_of_margin state margin ∷ kw_or_dash allows ∷ []

-- ---- what the rounds leave
-- n of each row
abbrev pub counts_of : Grid → List ℕ
counts_of g = table g.rows (sharers g)

-- what the rounds leave: their work, n of each row, and the margins as they stood after border b's last round
pub record Worked (g : Grid) (m x : List ℕ) (b : ℕ) (end : Final) (margins lasts ns stood : List ℕ) : Type 0 where
  pub work : work_left end margins lasts ≡ work_of g m x
  pub counts : ns ≡ counts_of g
  pub then_stood : stood ≡ margins_after g m (at lasts b)
