-- What code and theorems need of the rounds (01, "Extraction" and demand 3), for any rows, borders and factors p, any starting margins and any starting exchanges.
-- Limits are variables. `Rounds g s k t` says that k rounds that raise something lead from s to t, where the work ends. What else is proved of them is in crate theorems.
use mathlib.Core.Path.{◌≡◌}
use mathlib.Core.List.{List}
use Prim.Native.Nat.{ℕ, ◌-◌, ◌^◌, ◌≤◌, ◌<◌}
use native.Mathlib.Nat.{le_trans}
use native.Mathlib.Omega.{arith}
use lib.Pow.{pow_pos}
use Rattle.numbers.specs.Below.{largest}
use Rattle.numbers.proofs.BelowLaws.{largest_le, largest_under}
use Rattle.rounds.specs.Rounds.{Grid, State, alone, Rounds, extract, alone_bits}
use Rattle.rounds.specs.Demand.{GridDemand3}
use Rattle.rounds.specs.Last.{last_rounds}
use Rattle.rounds.specs.Stopping.{stop_rows}
use Rattle.rounds.proofs.Halving.{bits_over, bits_least}
use Rattle.rounds.proofs.Rounds as all
use Rattle.rounds.proofs.Laid.{grid, laid_extract, laid_lasts, laid_stops}

-- there is an end, the one that is computed
pub extracts : (g : Grid) (s : State) → Rounds g s (extract g s).rounds (extract g s).state
extracts = all.extracts

-- L of 01: each border's raise alone at the start is under 2^L
pub alone_under : (g : Grid) (m : List ℕ) (b : ℕ) → b < g.borders → alone g m b < 2 ^ alone_bits g m
unfolding alone_bits
alone_under g m b h = le_trans (omega (arith, largest_le g.borders (alone g m) b h)) (bits_over (largest g.borders (alone g m)))

-- L is the least number for which each border's raise alone is under 2^L
pub alone_least : (g : Grid) (m : List ℕ) (L : ℕ) → ((b : ℕ) → b < g.borders → alone g m b < 2 ^ L) → alone_bits g m ≤ L
unfolding alone_bits
alone_least g m L h =
    let u : largest g.borders (alone g m) ≤ 2 ^ L - 1 = largest_under g.borders (alone g m) (2 ^ L - 1) (λ b l. omega (arith, h b l)) in
    bits_least (largest g.borders (alone g m)) L (omega (arith, pow_pos L))

-- demand 3: within the margins, the loss of each row, at most 2 N L rounds, and one further round raises nothing
pub demand3 : {g : Grid} {s t : State} {k : ℕ} → Rounds g s k t → GridDemand3 g s k t
demand3 {g} {s} w =
    record {
      within = all.within w;
      rose = all.rises w;
      lost = all.lost w;
      few = all.rounds_bound w (alone_bits g s.margins) (alone_under g s.margins);
      still = all.ended_at_lem w;
    }

pub extract_demand3 : (g : Grid) (s : State) → GridDemand3 g s (extract g s).rounds (extract g s).state
extract_demand3 g s = demand3 (all.extracts g s)

-- two grids that agree on p give equal runs: it does not matter where p stands
pub same_factors : (rows borders : ℕ) (p p' : ℕ → ℕ → ℕ) → ((i b : ℕ) → i < rows → b < borders → p i b ≡ p' i b) → (s : State) → extract (grid rows borders p) s ≡ extract (grid rows borders p') s
same_factors = laid_extract

-- two grids that agree on p give the same last round and stopping row of each border
pub same_lasts : (rows borders : ℕ) (p p' : ℕ → ℕ → ℕ) → ((i b : ℕ) → i < rows → b < borders → p i b ≡ p' i b) → (s : State) → last_rounds (grid rows borders p) s ≡ last_rounds (grid rows borders p') s
same_lasts = laid_lasts

pub same_stops : (rows borders : ℕ) (p p' : ℕ → ℕ → ℕ) → ((i b : ℕ) → i < rows → b < borders → p i b ≡ p' i b) → (left : List ℕ) → stop_rows (grid rows borders p) left ≡ stop_rows (grid rows borders p') left
same_stops = laid_stops
