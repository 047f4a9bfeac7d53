-- What the loop of `bits` needs: bits by halving; and how large N and L get. No contract cites this file.
use mathlib.Core.Path.{◌≡◌, refl, ap}
use Prim.Native.Nat.{ℕ, zero, suc, ◌+◌, ◌/◌, ◌^◌, ◌≤◌, ◌<◌}
use native.Mathlib.Omega.{arith}
use Rattle.numbers.specs.Below.{count}
use Rattle.numbers.proofs.BelowLaws.{count_le, largest_under}
use Rattle.rounds.specs.Rounds.{Grid, sharers, most_sharers, bits_to, bits}
use Rattle.rounds.proofs.Halving.{bits_least}

-- ---- bits, by halving
same_fuel : (k k' v : ℕ) → v ≤ k → v ≤ k' → bits_to k v ≡ bits_to k' v
unfolding bits_to
same_fuel zero zero zero h h' = refl
same_fuel zero (suc k') zero h h' = refl
same_fuel (suc k) zero zero h h' = refl
same_fuel (suc k) (suc k') zero h h' = refl
same_fuel (suc k) (suc k') (suc v) h h' = ap suc (same_fuel k k' (suc v / 2) (omega arith) (omega arith))
same_fuel zero k' (suc v) h h' = absurd (omega arith)
same_fuel (suc k) zero (suc v) h h' = absurd (omega arith)

bits_half : (v : ℕ) → 0 < v → bits v ≡ 1 + bits (v / 2)
unfolding bits bits_to
bits_half zero h = absurd (omega arith)
bits_half (suc v) h = let e : suc (bits_to v (suc v / 2)) ≡ suc (bits_to (suc v / 2) (suc v / 2)) = ap suc (same_fuel v (suc v / 2) (suc v / 2) (omega arith) (omega arith)) in omega (arith, e)

bits_to_le : (k v : ℕ) → bits_to k v ≤ k
unfolding bits_to
bits_to_le zero v = omega arith
bits_to_le (suc k) zero = omega arith
bits_to_le (suc k) (suc v) = omega (arith, bits_to_le k (suc v / 2))

bits_le : (v : ℕ) → bits v ≤ v
unfolding bits
bits_le v = bits_to_le v v

-- after `n` halvings of v, `rest` is left
pub record Halved (v rest n : ℕ) : Type 0 where
  pub sum : n + bits rest ≡ bits v

pub halved_none : (v : ℕ) → Halved v v 0
halved_none v = record { sum = omega arith }

module _ {v rest n : ℕ} (u : Halved v rest n) where
  pub halved_more : 0 < rest → Halved v (rest / 2) (n + 1)
  halved_more h = record { sum = omega (arith, u.sum, bits_half rest h) }

  -- there are fewer halvings than v
  pub halved_few : 0 < rest → n < v
  halved_few h = omega (arith, u.sum, bits_half rest h, bits_le v)

  pub halved_all : rest ≤ 0 → n ≡ bits v
  unfolding bits bits_to
  halved_all h = go rest h u.sum
    where
      go : (r : ℕ) → r ≤ 0 → n + bits_to r r ≡ bits_to v v → n ≡ bits_to v v
      go zero h e = omega (arith, e)
      go (suc r) h e = absurd (omega arith)

-- ---- how large N and L get
pub sharers_few : (g : Grid) → most_sharers g ≤ g.borders
unfolding most_sharers sharers
sharers_few g = largest_under g.rows (λ i. count g.borders (g.p i)) g.borders (λ i h. count_le g.borders (g.p i))

pub bits_few : (v : ℕ) → v < 2 ^ 64 → bits v ≤ 64
bits_few v h = bits_least v 64 h
