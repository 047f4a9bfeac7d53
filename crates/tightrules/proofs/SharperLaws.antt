-- The sharper bound, `tight_bound`, is never above 2 N L, for any grid and any margins. No contract cites this file; that the rounds are at most this bound is in crate worst.
use mathlib.Core.Path.{◌≡◌, ap, ◌∙◌}
use mathlib.Core.List.{List}
use mathlib.Core.Logic.{⊎_elim}
use Prim.Native.Nat.{ℕ, ◌*◌, ◌-◌, ◌/◌, ◌^◌, ◌≤◌, ◌<◌}
use native.Mathlib.Omega.{arith}
use lib.Pow.{pow_pos}
use Rattle.numbers.specs.Below.{at, largest}
use Rattle.numbers.proofs.BelowLaws.{count_pos, largest_le, largest_under, le_or_lt}
use Rattle.rounds.specs.Rounds.{Grid, sharers, alone, most_sharers, alone_bits}
use Rattle.rounds.proofs.LeastLaws.{least_one, least_mono}
use Rattle.rounds.proofs.Theorems.{alone_under}
use Rattle.tightrules.specs.Tight.{steps, row_reach, reach, farthest, tight_bound}
use Rattle.tightrules.proofs.StepLaws.{steps_none, steps_bound}

-- no border's reach is above what it could take alone
pub reach_alone : (g : Grid) (m : List ℕ) (b : ℕ) → reach g m b ≤ alone g m b
unfolding reach row_reach alone
reach_alone g m b = least_mono g.rows (λ i. g.p i b) (row_reach g m b) (λ i. at m i / g.p i b) (λ i hi hp. omega arith)

-- where no row shares, no border has a reach
reach_none : (g : Grid) (m : List ℕ) → most_sharers g ≡ 0 → (b : ℕ) → b < g.borders → reach g m b ≤ 0
unfolding most_sharers sharers reach
reach_none g m e b hb =
    ⊎_elim
    (λ z. z)
    (λ z.
    let s = least_one g.rows (λ i. g.p i b) (row_reach g m b) z in
    omega (arith, e, largest_le g.rows (sharers g) s.i s.below, count_pos g.borders (g.p s.i) b hb s.counts))
    (le_or_lt (reach g m b) 0)

-- where no row has sharers, the bound is 0
pub no_sharers : (g : Grid) (m : List ℕ) → most_sharers g ≤ 0 → tight_bound g m ≡ 0
unfolding tight_bound farthest
no_sharers g m h =
    let none : largest g.borders (reach g m) ≤ 0 = largest_under g.borders (reach g m) 0 (reach_none g m (omega arith)) in
    let e : largest g.borders (reach g m) ≡ 0 = omega arith in
    ap (steps (most_sharers g)) e ∙ steps_none (most_sharers g)

-- the bound is never above demand 3's
pub tight_le : (g : Grid) (m : List ℕ) → tight_bound g m ≤ 2 * most_sharers g * alone_bits g m
unfolding tight_bound farthest
tight_le g m =
    let L : ℕ = alone_bits g m in
    let u : farthest g m ≤ 2 ^ L - 1 = largest_under g.borders (reach g m) (2 ^ L - 1) (λ b h. omega (arith, reach_alone g m b, alone_under g m b h)) in
    ⊎_elim
    (λ z. omega (arith, no_sharers g m z))
    (λ z. steps_bound (most_sharers g) (farthest g m) L z (omega (arith, pow_pos L)))
    (le_or_lt (most_sharers g) 0)
