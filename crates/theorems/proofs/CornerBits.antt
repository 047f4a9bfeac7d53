-- The number of a corner is its bits (02, E1): each choice of borders has one number below 2 ^ n, and no other.
use mathlib.Core.Path.{◌≡◌, refl, sym, ap, ◌∙◌}
use mathlib.Core.Bool.{Bool, true, false, cond}
use mathlib.Core.Logic.{◌⊎◌, inl, inr, ⊎_elim}
use Prim.Native.Nat.{ℕ, zero, suc, ◌+◌, ◌-◌, ◌/◌, ◌%◌, ◌^◌, ◌<◌}
use native.Mathlib.Nat.{pow-zero, two-pow-succ, not-suc-le-zero, le_refl, mod-lt}
use native.Mathlib.Omega.{arith}
use lib.Dec.{eqb}
use lib.IntN.{ℤ, pos}
use lib.Pow.{pow_pos}
use Rattle.numbers.specs.Below.{if_zero}
use Rattle.numbers.proofs.BelowLaws.{le_or_lt, lt_suc_cases}
use Rattle.marginrules.proofs.Corner.{low_bit, top_bit, same_bit, used}
use Rattle.cornerrules.specs.Corners.{bit}

pub low_not : (n k : ℕ) → k < 2 ^ n → bit k n ≡ false
low_not n k h = ap (λ (v : ℕ). eqb v 1) (low_bit n k h)

pub top_set : (n k : ℕ) → k < 2 ^ n → bit (2 ^ n + k) n ≡ true
top_set n k h = ap (λ (v : ℕ). eqb v 1) (top_bit n k h)

pub bit_same : (n b k : ℕ) → b < n → bit (2 ^ n + k) b ≡ bit k b
bit_same n b k h = ap (λ (v : ℕ). eqb v 1) (same_bit n b k h)

-- the number whose bits choose the borders
pub corner_of : (chosen : ℕ → Bool) → (n : ℕ) → ℕ
corner_of chosen zero = 0
corner_of chosen (suc n) = let rest = corner_of chosen n in cond (chosen n) (2 ^ n + rest) rest

module _ (chosen : ℕ → Bool) where
  pub number_below : (n : ℕ) → corner_of chosen n < 2 ^ n
  unfolding corner_of
  number_below zero = pow_pos 0
  number_below (suc n) = go (chosen n) (number_below n)
    where
      go : (t : Bool) → corner_of chosen n < 2 ^ n → cond t (2 ^ n + corner_of chosen n) (corner_of chosen n) < 2 ^ suc n
      go true h = omega (arith, two-pow-succ n)
      go false h = omega (arith, two-pow-succ n)

  pub number_bits : (n b : ℕ) → b < n → bit (corner_of chosen n) b ≡ chosen b
  unfolding corner_of
  number_bits zero b h = absurd (not-suc-le-zero h)
  number_bits (suc n) b h = go (chosen n) refl (number_bits n b) (lt_suc_cases b n h)
    where
      go : (t : Bool) → chosen n ≡ t → (b < n → bit (corner_of chosen n) b ≡ chosen b) → (b < n) ⊎ (b ≡ n)
          → bit (cond t (2 ^ n + corner_of chosen n) (corner_of chosen n)) b ≡ chosen b
      go true e ih (inl l) = bit_same n b (corner_of chosen n) l ∙ ih l
      go true e ih (inr q) = rw q (top_set n (corner_of chosen n) (number_below n) ∙ sym e)
      go false e ih (inl l) = ih l
      go false e ih (inr q) = rw q (low_not n (corner_of chosen n) (number_below n) ∙ sym e)

  -- no other number has these bits
  pub number_only : (n k : ℕ) → k < 2 ^ n → ((b : ℕ) → b < n → bit k b ≡ chosen b) → k ≡ corner_of chosen n
  unfolding corner_of
  number_only zero k h all = omega (arith, pow-zero 2)
  number_only (suc n) k h all =
      ⊎_elim
      (λ l.
      let j = k - 2 ^ n in
      let e : 2 ^ n + j ≡ k = omega arith in
      let q : j < 2 ^ n = omega (arith, two-pow-succ n) in
      let t : chosen n ≡ true = sym (all n (le_refl (suc n))) ∙ ap (λ (x : ℕ). bit x n) (sym e) ∙ top_set n j q in
      let i : j ≡ corner_of chosen n = number_only n j q (λ b m. sym (bit_same n b j m) ∙ ap (λ (x : ℕ). bit x b) e ∙ all b (omega arith)) in
      rw t (omega (arith, i, e)))
      (λ l.
      let t : chosen n ≡ false = sym (all n (le_refl (suc n))) ∙ low_not n k l in
      rw t (number_only n k l (λ b m. all b (omega arith))))
      (le_or_lt (2 ^ n) k)

-- what a border puts into a corner, by its bit
pub part_chosen : (part : ℕ → ℤ) (k b : ℕ) → used part k b ≡ cond (bit k b) (part b) (pos 0)
unfolding if_zero
part_chosen part k b = go (k / 2 ^ b % 2) (mod-lt (k / 2 ^ b) (omega arith))
  where
    go : (v : ℕ) → v < 2 → if_zero v (pos 0) (part b) ≡ cond (eqb v 1) (part b) (pos 0)
    go zero h = refl
    go (suc zero) h = refl
    go (suc (suc v)) h = absurd (omega arith)
