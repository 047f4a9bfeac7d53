-- The laws of `specs/Tight.antt`: a cap and a row's share. No contract cites this file.
use mathlib.Core.Path.{◌≡◌, refl, sym}
use Prim.Native.Nat.{ℕ, zero, suc, ◌*◌, ◌-◌, ◌/◌, ◌^◌, ◌≤◌, ◌<◌, min}
use native.Mathlib.Nat.{not-suc-le-zero, zero-lt-suc, le_trans, le_antisymm, le_refl, mul-zero, mul-le-mul, le-min, min-le_left, min-le_right, min-eq_right, le-div_iff_mul-le, div-lt_iff_lt-mul}
use native.Mathlib.Omega.{arith}
use Rattle.numbers.specs.Below.{if_zero}
use Rattle.caps.specs.Tight.{tight}

pub tight_le : (f share a : ℕ) → tight f share a ≤ a
unfolding tight if_zero
tight_le zero share a = le_refl a
tight_le (suc f) share a = min-le_left a (share / suc f)

pub tight_share : (f share a : ℕ) → tight f share a * f ≤ share
unfolding tight if_zero
tight_share zero share a = omega (arith, mul-zero a)
tight_share (suc f) share a = (le-div_iff_mul-le (zero-lt-suc f)).0 (min-le_right a (share / suc f))

pub tight_over : (f share a u : ℕ) → u ≤ a → (0 < f → u ≤ share / f) → u ≤ tight f share a
unfolding tight if_zero
tight_over zero share a u h k = h
tight_over (suc f) share a u h k = le-min h (k (zero-lt-suc f))

-- where the product of cap and factor is within the share, the cap stays
pub tight_same : (f share a : ℕ) → a * f ≤ share → a ≡ tight f share a
tight_same f share a h = le_antisymm (tight_over f share a a (le_refl a) (λ z. (le-div_iff_mul-le z).1 h)) (tight_le f share a)

-- where the product is above the share, the cap falls to the quotient
pub tight_less : (f share a : ℕ) → share < a * f → (0 < f) × (share / f ≡ tight f share a)
unfolding tight if_zero
tight_less zero share a h = let z : ⊥ = omega (arith, mul-zero a) in absurd z
tight_less (suc f) share a h =
    let l : share / suc f < a = (div-lt_iff_lt-mul (zero-lt-suc f)).1 h in
    (zero-lt-suc f, sym (min-eq_right (omega arith)))

pub tight_zero : (f share a : ℕ) → f ≡ 0 → a ≡ tight f share a
unfolding tight if_zero
tight_zero f share a e = rw e refl

-- the lesser of cap and quotient
pub tight_pos : (f share a : ℕ) → 0 < f → min a (share / f) ≡ tight f share a
unfolding tight if_zero
tight_pos zero share a z = absurd (not-suc-le-zero z)
tight_pos (suc f) share a z = refl

-- to tighten again changes nothing
pub tight_again : (f share a u : ℕ) → tight f share a ≤ u → u ≤ a → tight f share u ≡ tight f share a
tight_again f share a u l h =
    le_antisymm
    (tight_over f share a (tight f share u) (le_trans (tight_le f share u) h) (λ z. (le-div_iff_mul-le z).1 (tight_share f share u)))
    (tight_over f share u (tight f share a) l (λ z. (le-div_iff_mul-le z).1 (tight_share f share a)))

-- the product is computed only where it fits
pub product_fits : (f a : ℕ) → a < 2 ^ 44 → f < 2 ^ 20 → a * f < 2 ^ 64
product_fits f a ha hf =
    let d : a * f ≤ (2 ^ 44 - 1) * 2 ^ 20 = mul-le-mul {n₂ = 2 ^ 44 - 1} {m₂ = 2 ^ 20} (omega arith) (omega arith) in
    omega arith
