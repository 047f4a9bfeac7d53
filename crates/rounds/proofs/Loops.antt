-- What the loops over a flat table need, here and in the crates above: the factors' place, counting, n of a row. No contract cites this file.
-- The record `Counted` is a loop's invariant, as is `Filled` of numbers.
use mathlib.Core.Path.{◌≡◌, refl, ap, ◌∙◌}
use mathlib.Core.List.{List}
use Prim.Native.Nat.{ℕ, ◌+◌, ◌*◌, ◌≤◌, ◌<◌}
use native.Mathlib.Nat.{mul-le-mul_right, suc-mul}
use native.Mathlib.Numerals.{add-one}
use native.Mathlib.Omega.{arith}
use lib.ListN.{length}
use Rattle.numbers.specs.Below.{if_zero, count, at}
use Rattle.numbers.proofs.BelowLaws.{if_zero_pos, count_le, table_long, table_get}
use Rattle.rounds.specs.Rounds.{Grid, sharers}
use Rattle.rounds.specs.AllRounds.{Ready}

-- the place of p of row i at border b is inside a table of rows x borders
pub place_inside : (rows borders i b n : ℕ) → rows * borders ≤ n → i < rows → b < borders → i * borders + b < n
place_inside rows borders i b n l hi hb = omega (arith, mul-le-mul_right borders hi, suc-mul i borders)

-- ---- counting

-- n of the first i items, of k, are above 0
pub record Counted (f : ℕ → ℕ) (k i n : ℕ) : Type 0 where
  pub high : i ≤ k
  pub number : n ≡ count i f

pub counted_none : (f : ℕ → ℕ) (k : ℕ) → Counted f k 0 0
unfolding count
counted_none f k = record { high = omega arith; number = refl }

module _ {f : ℕ → ℕ} {k i n : ℕ} (u : Counted f k i n) where
  pub counted_up : (v n' : ℕ) → i < k → v ≡ f i → 0 < v → n' ≡ n + 1 → Counted f k (i + 1) n'
  unfolding count
  counted_up v n' h e l d =
      record { high = omega arith; number = rw (add-one i) (omega (arith, u.number, if_zero_pos {A = ℕ} (f i) 0 1 (omega arith))) }

  pub counted_on : (v n' : ℕ) → i < k → v ≡ f i → v ≤ 0 → n' ≡ n → Counted f k (i + 1) n'
  unfolding count if_zero
  counted_on v n' h e l d = let z : f i ≡ 0 = omega arith in record { high = omega arith; number = rw (add-one i, z) (omega (arith, u.number)) }

  pub counted_le : n ≤ i
  counted_le = omega (arith, u.number, count_le i f)

  pub counted_all : k ≤ i → n ≡ count k f
  counted_all h = let e : i ≡ k = omega (arith, u.high) in u.number ∙ ap (λ (j : ℕ). count j f) e

-- ---- n of a row

module _ {g : Grid} {ns m : List ℕ} (q : Ready g ns m) where
  pub ready_long : length ns ≡ g.rows
  ready_long = ap length q.counts ∙ table_long g.rows (sharers g)

  pub ready_at : (i : ℕ) → i < g.rows → at ns i ≡ sharers g i
  ready_at i h = ap (λ (l : List ℕ). at l i) q.counts ∙ table_get g.rows (sharers g) i 0 h
