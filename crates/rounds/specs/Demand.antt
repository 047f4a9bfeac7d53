-- What 01 promises of the rounds ("Extraction", demand 3), over natural numbers: of k rounds that lead from s to t.
use Rattle.std.specs.Prelude.{◌≡◌, List, ℕ, ◌+◌, ◌*◌, ◌-◌, ◌≤◌, ◌<◌}
use Rattle.numbers.specs.Below.{at, sum}
use Rattle.rounds.specs.Rounds.{Grid, State, raise, load, most_sharers, alone_bits}

pub record GridDemand3 (g : Grid) (s : State) (k : ℕ) (t : State) : Type 0 where
  -- any exchanges from zero up to the final ones load no row beyond its margin and its load at the start (RAM, where the start is LTA)
  pub within : (e : List ℕ) → ((b : ℕ) → b < g.borders → at e b ≤ at t.x b) → (i : ℕ) → i < g.rows → load g i e ≤ at s.margins i + load g i s.x
  -- no border fell
  pub rose : (b : ℕ) → b < g.borders → at s.x b ≤ at t.x b
  -- what a row lost is the sum of p times the raises
  pub lost : (i : ℕ) → i < g.rows → at t.margins i + sum g.borders (λ b. g.p i b * (at t.x b - at s.x b)) ≡ at s.margins i
  -- rounds are at most 2 N L
  pub few : k ≤ 2 * most_sharers g * alone_bits g s.margins
  -- one further round would raise nothing
  pub still : (b : ℕ) → b < g.borders → raise g t.margins b ≡ 0
