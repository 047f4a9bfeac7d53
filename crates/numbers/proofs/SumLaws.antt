-- The laws of `specs/Below.antt`'s `sum`: of terms that are at most so large. No contract cites this file.
use Prim.Native.Nat.{ℕ, zero, suc, ◌*◌, ◌≤◌, ◌<◌}
use native.Mathlib.Nat.{le_refl, suc-mul}
use native.Mathlib.Omega.{arith}
use Rattle.numbers.specs.Below.{sum}

pub sum_most : {m : ℕ} (k : ℕ) (f : ℕ → ℕ) → ((i : ℕ) → i < k → f i ≤ m) → sum k f ≤ k * m
unfolding sum
sum_most {m} zero f h = omega arith
sum_most {m} (suc k) f h = omega (arith, sum_most k f (λ i l. h i (omega arith)), h k (le_refl (suc k)), suc-mul k m)
