-- A share among more is less, and cuts and steps (`equal_share_up`, `cut`, `steps` of crate tightrules) keep the order.
use mathlib.Core.Path.{◌≡◌}
use Prim.Native.Nat.{ℕ, zero, suc, ◌+◌, ◌*◌, ◌-◌, ◌/◌, ◌≤◌, ◌<◌}
use native.Mathlib.Nat.{zero-lt-suc, le_refl, suc-mul, div-zero, div-eq_of_lt, add-mul-div_left}
use native.Mathlib.Omega.{arith}
use Rattle.rounds.proofs.LeastLaws.{div_mono, div_anti}
use Rattle.tightrules.specs.Tight.{equal_share_up, cut, steps_within, steps}
use Rattle.tightrules.proofs.StepLaws.{equal_share_up_suc, cut_suc}

-- ---- equal_share_up
equal_share_up_zero : {n : ℕ} → 0 < n → equal_share_up n 0 ≡ 0
unfolding equal_share_up
equal_share_up_zero {n} z = div-eq_of_lt (omega arith)

-- a share among more is less
pub equal_share_up_anti : (u : ℕ) {n n' : ℕ} → 0 < n → n ≤ n' → equal_share_up n' u ≤ equal_share_up n u
equal_share_up_anti zero {n} {n'} z h = let z' : 0 < n' = omega arith in omega (arith, equal_share_up_zero z, equal_share_up_zero z')
equal_share_up_anti (suc u) {n} {n'} z h = let z' : 0 < n' = omega arith in omega (arith, equal_share_up_suc u z, equal_share_up_suc u z', div_anti u z h)

-- the share of d more is at most d more
equal_share_up_add : (n u d : ℕ) → equal_share_up n (u + d) ≤ equal_share_up n u + d
unfolding equal_share_up
equal_share_up_add zero u d = omega (arith, div-zero (u + d + (0 - 1)))
equal_share_up_add (suc n) u d =
    let v : ℕ = u + (suc n - 1) in
    let l : (u + d + (suc n - 1)) / suc n ≤ (v + suc n * d) / suc n = div_mono (suc n) (omega (arith, suc-mul n d)) in
    omega (arith, add-mul-div_left v d (zero-lt-suc n))

-- ---- cut
cut_mono : {n n' u u' : ℕ} → 0 < n → n ≤ n' → u ≤ u' → cut n u ≤ cut n' u'
unfolding cut
cut_mono {n} {n'} {u} {u'} z l h = let e : u' ≡ u + (u' - u) = omega arith in rw e (omega (arith, equal_share_up_add n u (u' - u), equal_share_up_anti (u + (u' - u)) z l))

-- what is left after a step of at least a share is within the cut
pub cut_over : (n u v : ℕ) → equal_share_up n (u + v) ≤ v → u ≤ cut n (u + v)
unfolding cut
cut_over n u v h = omega arith

-- ---- steps
within_mono : (fuel fuel' n n' u u' : ℕ) → 0 < n → n ≤ n' → fuel ≤ fuel' → u ≤ u' → steps_within fuel n u ≤ steps_within fuel' n' u'
unfolding steps_within
within_mono zero fuel' n n' u u' z l f h = omega arith
within_mono (suc fuel) fuel' n n' zero u' z l f h = omega arith
within_mono (suc fuel) zero n n' (suc u) u' z l f h = absurd (omega arith)
within_mono (suc fuel) (suc fuel') n n' (suc u) zero z l f h = absurd (omega arith)
within_mono (suc fuel) (suc fuel') n n' (suc u) (suc u') z l f h = omega (arith, within_mono fuel fuel' n n' (cut n (suc u)) (cut n' (suc u')) z l (omega arith) (cut_mono z l h))

-- a larger number, among more, takes no fewer steps
pub steps_mono : {n n' u u' : ℕ} → 0 < n → n ≤ n' → u ≤ u' → steps n u ≤ steps n' u'
unfolding steps
steps_mono {n} {n'} {u} {u'} z l h = within_mono u u' n n' u u' z l h h

-- one step more, where the cut leaves no less
pub steps_more : (n u : ℕ) {u' k : ℕ} → 0 < n → 0 < u → u' ≤ cut n u → k ≤ steps n u' → suc k ≤ steps n u
unfolding steps steps_within
steps_more n zero z y h l = absurd (omega arith)
steps_more n (suc u) {u'} z y h l = omega (arith, within_mono u' u n n u' (cut n (suc u)) z (le_refl n) (omega (arith, cut_suc u z)) h)
