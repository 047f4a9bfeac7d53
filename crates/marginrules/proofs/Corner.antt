-- The number of a corner and its bits, and what a border puts into a corner (01, "Margin of a row"). No contract cites this file; that S is the largest sum over all corners is in
-- crate theorems (`s-largest-corner`).
use mathlib.Core.Path.{◌≡◌, refl, sym, ap, ◌∙◌}
use Prim.Native.Nat.{ℕ, zero, suc, ◌+◌, ◌*◌, ◌/◌, ◌%◌, ◌^◌, ◌<◌}
use native.Mathlib.Nat.{pow-succ', div-eq_of_lt, add-div_left, mul-add-div, mul-add-mod_self_left, mul_assoc, not-suc-le-zero, one-mul}
use native.Mathlib.Omega.{arith}
use lib.IntN.{ℤ, pos}
use lib.Pow.{pow_pos}
use Rattle.numbers.specs.Below.{if_zero}

-- ---- bits
pub low_bit : (n k : ℕ) → k < 2 ^ n → k / 2 ^ n % 2 ≡ 0
low_bit n k h = rw (div-eq_of_lt h) refl

pub top_bit : (n k : ℕ) → k < 2 ^ n → (2 ^ n + k) / 2 ^ n % 2 ≡ 1
top_bit n k h = rw (add-div_left k (pow_pos n), div-eq_of_lt h) refl

-- 2 ^ n is an even number of 2 ^ b
record Even (n b : ℕ) : Type 0 where
  half : ℕ
  is : 2 ^ n ≡ 2 ^ b * (2 * half)

even : (n b : ℕ) → b < n → Even n b
even zero b h = absurd (not-suc-le-zero h)
even (suc n) zero h = record { half = 2 ^ n; is = pow-succ' 2 n ∙ sym (one-mul (2 * 2 ^ n)) }
even (suc n) (suc b) h =
    let e = even n b (omega arith) in
    record {
      half = e.half;
      is =
          pow-succ' 2 n ∙ ap (λ (x : ℕ). 2 * x) e.is ∙ sym (mul_assoc 2 (2 ^ b) (2 * e.half))
          ∙ ap (λ (x : ℕ). x * (2 * e.half)) (sym (pow-succ' 2 b));
    }

pub same_bit : (n b k : ℕ) → b < n → (2 ^ n + k) / 2 ^ b % 2 ≡ k / 2 ^ b % 2
same_bit n b k h =
    let e = even n b h in
    ap (λ (x : ℕ). (x + k) / 2 ^ b % 2) e.is
    ∙ ap (λ (x : ℕ). x % 2) (mul-add-div (pow_pos b) (2 * e.half) k)
    ∙ mul-add-mod_self_left 2 e.half (k / 2 ^ b)

-- ---- corners of any parts
-- what border b puts into corner k
abbrev pub used : (part : ℕ → ℤ) → (k b : ℕ) → ℤ
used part k b = if_zero (k / 2 ^ b % 2) (pos 0) (part b)
