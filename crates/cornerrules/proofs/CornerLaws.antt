-- The laws of `specs/Corners.antt`: how long a sheet is, what stands at each number, and how large a flow can be.
-- No contract cites this file.
use mathlib.Core.Path.{◌≡◌, refl, sym, ap, ap₂, subst, ◌∙◌}
use mathlib.Core.List.{List, [], ◌∷◌, ◌++◌}
use mathlib.Core.Logic.{⊎_elim}
use Prim.Native.Nat.{ℕ, zero, suc, ◌+◌, ◌*◌, ◌-◌, ◌/◌, ◌%◌, ◌^◌, ◌<◌}
use native.Mathlib.Nat.{pow-zero, two-pow-succ, not-suc-le-zero, le_refl}
use native.Mathlib.Omega.{arith}
use lib.IntN.{ℤ, pos, ◌+ℤ◌, +ℤ_idr}
use lib.ListN.{length, length-append, get_or-append}
use lib.Seq.{get_or-append-add}
use Rattle.numbers.specs.Ints.{Within, sum_ℤ}
use Rattle.numbers.specs.Below.{if_zero}
use Rattle.numbers.proofs.BelowLaws.{le_or_lt, sum_ℤ_cong}
use Rattle.numbers.proofs.IntLaws.{within_sum}
use Rattle.types.specs.Ranges.{at_ℤ}
use Rattle.marginrules.proofs.Corner.{low_bit, top_bit, same_bit, used}
use Rattle.cornerrules.specs.Corners.{raised_by, corner_flows}

-- ---- raised_by
pub raised_length : (part : ℤ) (flows : List ℤ) → length (raised_by part flows) ≡ length flows
unfolding raised_by
raised_length part [] = refl
raised_length part (flow ∷ flows) = ap suc (raised_length part flows)

pub raised_at : (part : ℤ) (flows : List ℤ) (k : ℕ) → k < length flows → at_ℤ (raised_by part flows) k ≡ at_ℤ flows k +ℤ part
unfolding raised_by
raised_at part [] k h = absurd (not-suc-le-zero h)
raised_at part (flow ∷ flows) zero h = refl
raised_at part (flow ∷ flows) (suc k) h = raised_at part flows k (omega arith)

-- ---- corner_flows: its length, and its two halves
module _ (part : ℕ → ℤ) where
  pub flows_length : (n : ℕ) → length (corner_flows part n) ≡ 2 ^ n
  unfolding corner_flows
  flows_length zero = sym (pow-zero 2)
  flows_length (suc n) =
      length-append (corner_flows part n) (raised_by (part n) (corner_flows part n))
      ∙ ap₂ ◌+◌ (flows_length n) (raised_length (part n) (corner_flows part n) ∙ flows_length n) ∙ sym (two-pow-succ n)

  low-flow : (n k : ℕ) → k < 2 ^ n → at_ℤ (corner_flows part (suc n)) k ≡ at_ℤ (corner_flows part n) k
  unfolding corner_flows
  low-flow n k h = get_or-append (corner_flows part n) _ (pos 0) k (omega (arith, flows_length n))

  high-flow : (n j : ℕ) → j < 2 ^ n → at_ℤ (corner_flows part (suc n)) (2 ^ n + j) ≡ at_ℤ (corner_flows part n) j +ℤ part n
  unfolding corner_flows
  high-flow n j h =
      ap (λ (k : ℕ). at_ℤ (corner_flows part n ++ raised_by (part n) (corner_flows part n)) (k + j)) (sym (flows_length n))
      ∙ get_or-append-add (corner_flows part n) (raised_by (part n) (corner_flows part n)) j (pos 0)
      ∙ raised_at (part n) (corner_flows part n) j (omega (arith, flows_length n))

  -- the corner of number k stands at k
  pub flows_at : (n k : ℕ) → k < 2 ^ n → at_ℤ (corner_flows part n) k ≡ sum_ℤ n (used part k)
  unfolding corner_flows sum_ℤ if_zero
  flows_at zero k h = let e : k ≡ 0 = omega (arith, pow-zero 2) in subst (λ (x : ℕ). at_ℤ (pos 0 ∷ []) x ≡ pos 0) (sym e) refl
  flows_at (suc n) k h =
      ⊎_elim
      (λ l.
      let j = k - 2 ^ n in
      let e : 2 ^ n + j ≡ k = omega arith in
      let q : j < 2 ^ n = omega (arith, two-pow-succ n) in
      subst (λ (x : ℕ). at_ℤ (corner_flows part (suc n)) x ≡ sum_ℤ (suc n) (used part x)) e
      (high-flow n j q
      ∙ ap₂ ◌+ℤ◌
      (flows_at n j q ∙ sum_ℤ_cong n (used part j) (used part (2 ^ n + j)) (λ b l. ap (λ (v : ℕ). if_zero v (pos 0) (part b)) (sym (same_bit n b j l))))
      (ap (λ (v : ℕ). if_zero v (pos 0) (part n)) (sym (top_bit n j q)))))
      (λ l.
      low-flow n k l ∙ flows_at n k l ∙ sym (+ℤ_idr (sum_ℤ n (used part k)))
      ∙ ap (λ (v : ℕ). sum_ℤ n (used part k) +ℤ if_zero v (pos 0) (part n)) (sym (low_bit n k l)))
      (le_or_lt (2 ^ n) k)

  -- parts that are alike below n make the same sheet
  pub flows_cong : (part' : ℕ → ℤ) (n : ℕ) → ((b : ℕ) → b < n → part b ≡ part' b) → corner_flows part n ≡ corner_flows part' n
  unfolding corner_flows
  flows_cong part' zero h = refl
  flows_cong part' (suc n) h =
      ap₂ (λ (rest : List ℤ) (z : ℤ). rest ++ raised_by z rest) (flows_cong part' n (λ b l. h b (omega arith))) (h n (le_refl (suc n)))

  -- a flow is at most n parts
  pub flow_within : {m : ℕ} (n : ℕ) → ((b : ℕ) → b < n → Within m (part b)) → (k : ℕ) → k < 2 ^ n → Within (n * m) (at_ℤ (corner_flows part n) k)
  unfolding if_zero
  flow_within {m} n h k l = rw (flows_at n k l) (within_sum n (used part k) (λ b q. go b (k / 2 ^ b % 2) (h b q)))
    where
      go : (b v : ℕ) → Within m (part b) → Within m (if_zero v (pos 0) (part b))
      go b zero w = record { abs = omega arith }
      go b (suc v) w = w
