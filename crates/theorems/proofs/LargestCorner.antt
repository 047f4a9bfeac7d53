-- 01, "Margin of a row": S, the sum of p times LTA, is the largest sum over all corners, for any number of borders.
-- The corner that reaches it uses the borders whose signed factor is positive.
use mathlib.Core.Path.{◌≡◌, refl, sym, ap, ap₂, subst, ◌∙◌}
use mathlib.Core.List.{List, []}
use Prim.Native.Nat.{ℕ, zero, suc, ◌+◌, ◌*◌, ◌/◌, ◌%◌, ◌^◌, ◌<◌}
use native.Mathlib.Nat.{two-pow-succ, zero-mul}
use native.Mathlib.Omega.{arith}
use lib.IntN.{ℤ, pos, negsuc, neg_ℤ, ◌+ℤ◌, ◌*ℤ◌}
use lib.ListN.{length, get_or}
use lib.Pow.{pow_pos}
use lib.Signed.{◌≤ℤ◌, ≤ℤ_refl}
use Rattle.numbers.specs.Ints.{positive_part, sum_ℤ}
use Rattle.numbers.specs.Below.{sum, if_zero}
use Rattle.numbers.proofs.IntLaws.{diffs, zarith, add_le_pos}
use Rattle.numbers.proofs.BelowLaws.{sum_cong, sum_ℤ_cong}
use Rattle.types.specs.Ranges.{border_of}
use Rattle.marginrules.specs.Margin.{signed_factor, p_of, lta_kw, corner_part, corner_sum, s_of}
use Rattle.marginrules.proofs.Corner.{low_bit, top_bit, same_bit, used}
use Rattle.promises.specs.LargestCorner.{LargestCorner}

-- ---- corners of any parts
module _ (part : ℕ → ℤ) where
  term-le : (v : ℕ) (z : ℤ) → if_zero v (pos 0) z ≤ℤ pos (positive_part z)
  unfolding if_zero positive_part
  term-le zero (pos n) = simp diffs (omega zarith)
  term-le zero (negsuc n) = record { le = tt }
  term-le (suc v) (pos n) = ≤ℤ_refl (pos n)
  term-le (suc v) (negsuc n) = record { le = tt }

  pub corner_le : (n k : ℕ) → sum_ℤ n (used part k) ≤ℤ pos (sum n (λ b. positive_part (part b)))
  unfolding sum_ℤ sum
  corner_le zero k = ≤ℤ_refl (pos 0)
  corner_le (suc n) k = add_le_pos _ _ _ _ (corner_le n k) (term-le (k / 2 ^ n % 2) (part n))

  record Reached (n : ℕ) : Type 0 where
    corner : ℕ
    below : corner < 2 ^ n
    is : sum_ℤ n (used part corner) ≡ pos (sum n (λ b. positive_part (part b)))

  reached : (n : ℕ) → Reached n
  unfolding sum_ℤ sum positive_part if_zero
  reached zero = record { corner = 0; below = pow_pos 0; is = refl }
  reached (suc n) = go (part n) refl (reached n)
    where
      go : (z : ℤ) → part n ≡ z → Reached n → Reached (suc n)
      go (pos c) e r =
          record {
            corner = 2 ^ n + r.corner;
            below = omega (arith, two-pow-succ n, r.below);
            is =
                ap₂ ◌+ℤ◌
                (sum_ℤ_cong n (used part (2 ^ n + r.corner)) (used part r.corner) (λ b l. ap (λ (v : ℕ). if_zero v (pos 0) (part b)) (same_bit n b r.corner l)) ∙ r.is)
                (ap (λ (v : ℕ). if_zero v (pos 0) (part n)) (top_bit n r.corner r.below) ∙ e)
                ∙ ap (λ (x : ℤ). pos (sum n (λ b. positive_part (part b)) + positive_part x)) (sym e);
          }
      go (negsuc c) e r =
          record {
            corner = r.corner;
            below = omega (arith, two-pow-succ n, r.below);
            is =
                ap₂ ◌+ℤ◌ r.is (ap (λ (v : ℕ). if_zero v (pos 0) (part n)) (low_bit n r.corner r.below))
                ∙ ap (λ (x : ℤ). pos (sum n (λ b. positive_part (part b)) + positive_part x)) (sym e);
          }

-- ---- S of a row
neg_part : (m : ℕ) → positive_part (neg_ℤ (pos m)) ≡ 0
unfolding positive_part
neg_part zero = refl
neg_part (suc m) = refl

part_mul : (s : ℤ) (v : ℕ) → positive_part (s *ℤ pos v) ≡ positive_part s * v
unfolding positive_part
part_mul (pos n) v = refl
part_mul (negsuc n) v = neg_part (suc n * v) ∙ sym (zero-mul v)

pub s_largest_corner : (factors : List ℤ) (borders : List (List ℤ)) → LargestCorner factors borders
unfolding corner_sum s_of corner_part p_of
s_largest_corner fs bs =
    let part : ℕ → ℤ = λ b. corner_part fs (border_of (get_or bs b [])) in
    let n = length bs in
    let e : sum n (λ b. positive_part (part b)) ≡ s_of fs bs =
    sum_cong n _ _ (λ b l. part_mul (signed_factor fs (border_of (get_or bs b []))) (lta_kw (border_of (get_or bs b [])))) in
    let r = reached part n in
    record {
      all = λ k. subst (λ (v : ℕ). sum_ℤ n (used part k) ≤ℤ pos v) e (corner_le part n k);
      corner = r.corner;
      below = r.below;
      is = r.is ∙ ap pos e;
    }
