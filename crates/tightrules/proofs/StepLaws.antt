-- The laws of `equal_share_up`, `cut` and `steps` that code needs: steps from under 2^L are at most 2 N L, and how they are taken one by one. No contract cites this file.
use mathlib.Core.Path.{◌≡◌, refl, sym, ap, subst}
use Prim.Native.Nat.{ℕ, zero, suc, ◌+◌, ◌*◌, ◌-◌, ◌/◌, ◌^◌, ◌≤◌, ◌<◌}
use native.Mathlib.Nat.{le_refl, le_antisymm, div-zero, div-le_self, add-div_right, suc-mul, le-div_iff_mul-le, div-lt_iff_lt-mul}
use native.Mathlib.Omega.{arith}
use Rattle.std.specs.Int.{div_ceil}
use Rattle.std.proofs.lemmas.Grind.{div_ceil_times}
use Rattle.rounds.proofs.LeastLaws.{div_mono}
use Rattle.rounds.proofs.Halving.{Falls, stop, step, falls_bound}
use Rattle.tightrules.specs.Tight.{equal_share_up, cut, steps_within, steps}

-- ---- equal_share_up
pub equal_share_up_suc : (u : ℕ) {n : ℕ} → 0 < n → equal_share_up n (suc u) ≡ u / n + 1
unfolding equal_share_up
equal_share_up_suc u {n} z = let e : suc u + (n - 1) ≡ u + n = omega arith in rw e (add-div_right u z)

-- ---- cut
-- a cut computed without a sum that could overflow
pub cut_suc : (u : ℕ) {n : ℕ} → 0 < n → u - u / n ≡ cut n (suc u)
unfolding cut
cut_suc u {n} z = omega (arith, equal_share_up_suc u z)

-- the share of rest, rounded up as code does
pub ceil_suc : (rest n : ℕ) → 0 < n → 0 < rest → div_ceil rest n ≡ (rest - 1) / n + 1
ceil_suc rest n z y =
    let q : ℕ = div_ceil rest n in
    let p : ℕ = q - 1 in
    let within = div_ceil_times rest n z in
    let low : (rest - 1) / n < q = (div-lt_iff_lt-mul z).1 (omega (arith, within.0)) in
    let e : q ≡ suc p = omega arith in
    let high : p ≤ (rest - 1) / n = (le-div_iff_mul-le z).1 (omega (arith, within.1, ap (λ (k : ℕ). k * n) e, suc-mul p n)) in
    omega arith

-- ---- steps
-- where n is 0 a cut takes nothing away, and the fuel is the number of steps
within_idle : (fuel u : ℕ) → steps_within fuel 0 (suc u) ≡ fuel
unfolding steps_within cut equal_share_up
within_idle zero u = refl
within_idle (suc fuel) u =
    let e : cut 0 (suc u) ≡ suc u = omega (arith, div-zero (suc u + (0 - 1))) in
    ap suc (subst (λ (v : ℕ). steps_within fuel 0 v ≡ fuel) (sym e) (within_idle fuel u))

pub steps_none : (n : ℕ) → steps n 0 ≡ 0
unfolding steps steps_within
steps_none n = refl

within_le : (fuel n u : ℕ) → steps_within fuel n u ≤ fuel
unfolding steps_within
within_le zero n u = omega arith
within_le (suc fuel) n zero = omega arith
within_le (suc fuel) n (suc u) = omega (arith, within_le fuel n (cut n (suc u)))

pub steps_le : (n u : ℕ) → steps n u ≤ u
unfolding steps
steps_le n u = within_le u n u

-- steps are falls as in demand 3, where a fall is at least the share rounded down
within_falls : (fuel n u : ℕ) → 0 < n → Falls n u (steps_within fuel n u)
unfolding steps_within cut equal_share_up
within_falls zero n u z = stop
within_falls (suc fuel) n zero z = stop
within_falls (suc fuel) n (suc u) z =
    let e : equal_share_up n (suc u) ≡ u / n + 1 = equal_share_up_suc u z in
    step {a = suc u} (cut n (suc u)) (equal_share_up n (suc u)) (omega (arith, div-le_self u n)) (div_mono n (omega arith)) (omega arith) (within_falls fuel n (cut n (suc u)) z)

pub steps_bound : (n u L : ℕ) → 0 < n → u < 2 ^ L → steps n u ≤ 2 * n * L
unfolding steps
steps_bound n u L z h = falls_bound n z L (within_falls u n u z) h

-- ---- step by step

-- fuel that is not below u is enough
within_enough : (fuel fuel' n u : ℕ) → 0 < n → u ≤ fuel' → steps_within fuel n u ≤ steps_within fuel' n u
unfolding steps_within
within_enough zero fuel' n u z h = omega arith
within_enough (suc fuel) fuel' n zero z h = omega arith
within_enough (suc fuel) zero n (suc u) z h = absurd (omega arith)
within_enough (suc fuel) (suc fuel') n (suc u) z h = omega (arith, within_enough fuel fuel' n (cut n (suc u)) z (omega (arith, cut_suc u z)))

steps_suc : (u : ℕ) {n : ℕ} → 0 < n → steps n (suc u) ≡ suc (steps n (u - u / n))
unfolding steps steps_within
steps_suc u {n} z =
    let v : ℕ = u - u / n in
    rw (← cut_suc u z) (ap suc (le_antisymm (within_enough u v n v z (le_refl v)) (within_enough v u n v z (omega arith))))

-- where n is 0 a cut takes nothing away, and there are u steps
pub steps_idle : (u : ℕ) → steps 0 u ≡ u
unfolding steps
steps_idle zero = steps_none 0
steps_idle (suc u) = within_idle (suc u) u

-- u was cut `count` times, and `rest` is left
pub record Stepped (n u rest count : ℕ) : Type 0 where
  pub sum : count + steps n rest ≡ steps n u

pub stepped_none : (n u : ℕ) → Stepped n u u 0
stepped_none n u = record { sum = omega arith }

module _ {n u rest count : ℕ} (s : Stepped n u rest count) where
  module _ (z : 0 < n) (y : 0 < rest) where
    step-here : steps n rest ≡ suc (steps n (rest - 1 - (rest - 1) / n))
    step-here = let e : suc (rest - 1) ≡ rest = omega arith in subst (λ (v : ℕ). steps n v ≡ suc (steps n (rest - 1 - (rest - 1) / n))) e (steps_suc (rest - 1) z)

    pub stepped_more : Stepped n u (rest - div_ceil rest n) (count + 1)
    stepped_more =
        let e : rest - div_ceil rest n ≡ rest - 1 - (rest - 1) / n = omega (arith, ceil_suc rest n z y) in
        rw e (record { sum = omega (arith, s.sum, step-here) })

    pub stepped_few : count < u
    stepped_few = omega (arith, s.sum, step-here, steps_le n u)

  pub stepped_all : rest ≤ 0 → count ≡ steps n u
  stepped_all h = let e : rest ≡ 0 = omega arith in omega (arith, s.sum, ap (steps n) e, steps_none n)
