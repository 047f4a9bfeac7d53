-- The last round that raised a border (02, E7). What a round does, and how many are counted, is Rounds.antt's. Rounds are numbered from 1.
-- `last_rounds` is what contracts cite; `LastRaise` says what the last round is, and is proved of every work (`last-round` of `proofs/LastLaws.antt`).
use Rattle.std.specs.Prelude.{◌≡◌, List, ℕ, zero, suc, ◌≤◌, ◌<◌}
use Rattle.numbers.specs.Below.{if_zero, table}
use Rattle.rounds.specs.Rounds.{Grid, State, raise, next, extract}

-- where the rules stand after k rounds from s
unfoldable pub after : Grid → State → (k : ℕ) → State
after g s zero = s
after g s (suc k) = next g (after g s k)

-- what the rules raise border b by in round k from s. There is no round 0
unfoldable pub raise_in : Grid → State → (b k : ℕ) → ℕ
raise_in g s b zero = 0
raise_in g s b (suc k) = raise g (after g s k).margins b

-- the last of the first k rounds that raises border b, or 0 if none does
unfoldable pub last_to : Grid → State → (b k : ℕ) → ℕ
last_to g s b zero = 0
last_to g s b (suc k) = if_zero (raise_in g s b (suc k)) (last_to g s b k) (suc k)

-- the last of the counted rounds that raises border b, or 0 if none does
unfoldable pub last_round : Grid → State → (b : ℕ) → ℕ
last_round g s b = last_to g s b (extract g s).rounds

-- for each border
abbrev pub last_rounds : Grid → State → List ℕ
last_rounds g s = table g.borders (last_round g s)

-- `last` is the last of the first k rounds from s in which the rules raise border b, and 0 if they raise it in none
pub record LastRaise (g : Grid) (s : State) (b k last : ℕ) : Type 0 where
  pub counted : last ≤ k
  pub raised : 0 < last → 0 < raise_in g s b last
  pub no_later : (j : ℕ) → last < j → j ≤ k → raise_in g s b j ≡ 0
