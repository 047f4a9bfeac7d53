-- What demand 3 of every profile cites: a signed load is at most the sum of p times exchange, and what a margin is where it is not below 0. No contract cites this file.
use mathlib.Core.Path.{◌≡◌, refl}
use mathlib.Core.Bool.{Bool, true, false, ◌&&◌, true≢false, false≢true}
use Prim.Native.Nat.{ℕ, zero, suc, ◌+◌, ◌*◌, ◌≤◌, ◌<◌}
use native.Mathlib.Nat.{le_refl}
use native.Mathlib.Omega.{arith}
use lib.IntN.{ℤ, pos, negsuc, neg_ℤ, ◌+ℤ◌, ◌-ℤ◌, ◌*ℤ◌}
use lib.Signed.{lt_z, ◌≤ℤ◌, ◌<ℤ◌, ≤ℤ_refl}
use Rattle.numbers.specs.Ints.{positive_part, sum_ℤ}
use Rattle.numbers.specs.Below.{sum}
use Rattle.numbers.proofs.IntLaws.{diff, diffs, zarith, add_le_pos}

-- ---- signed loads
neg_le : (a b : ℕ) → neg_ℤ (pos a) ≤ℤ pos b
neg_le a b = simp diffs (omega zarith)

part_le : (s : ℤ) (v : ℕ) → (s *ℤ pos v) ≤ℤ pos (positive_part s * v)
unfolding positive_part
part_le (pos n) v = ≤ℤ_refl (pos (n * v))
part_le (negsuc n) v = neg_le (suc n * v) (0 * v)

pub sum_le : (k : ℕ) (s : ℕ → ℤ) (v : ℕ → ℕ) → sum_ℤ k (λ b. s b *ℤ pos (v b)) ≤ℤ pos (sum k (λ b. positive_part (s b) * v b))
unfolding sum_ℤ sum
sum_le zero s v = ≤ℤ_refl (pos 0)
sum_le (suc k) s v = add_le_pos _ _ _ _ (sum_le k s v) (part_le (s k) (v k))

pub le_pos : (z : ℤ) (a b : ℕ) → z ≤ℤ pos a → a ≤ b → z ≤ℤ pos b
le_pos z a b h l =
    let h' = simp diffs at (rw (diff z) at h) in
    rw (diff z) (simp diffs (omega (zarith, h')))

pub sum_none : (n : ℕ) (f : ℕ → ℕ) → ((b : ℕ) → b < n → f b ≡ 0) → sum n f ≡ 0
unfolding sum
sum_none zero f h = refl
sum_none (suc n) f h = omega (arith, sum_none n f (λ b l. h b (omega arith)), h n (le_refl (suc n)))

-- ---- a margin that is not below 0, and one that is
pub part_is : (z : ℤ) → lt_z z (pos 0) ≡ false → z ≡ pos (positive_part z)
unfolding positive_part
part_is (pos n) h = refl
part_is (negsuc n) h = absurd (true≢false h)

pub part_none : (z : ℤ) → z <ℤ pos 0 → positive_part z ≡ 0
unfolding positive_part
part_none (pos n) h = let h' = simp diffs at h in omega (arith, h')
part_none (negsuc n) h = refl

pub and-false : (a b : Bool) → (a && b) ≡ false → a ≡ true → b ≡ false
and-false true b h k = h
and-false false b h k = absurd (false≢true k)

pub less_is : (r : ℤ) (s a : ℕ) → r -ℤ pos s ≡ pos a → r ≡ pos (a + s)
less_is r s a e =
    let e' = simp diffs at (rw (diff r) at e) in
    rw (diff r) (simp diffs (omega (zarith, e')))

pub on_top : (ram flow l : ℤ) → l ≤ℤ (ram -ℤ flow) → (flow +ℤ l) ≤ℤ ram
on_top ram flow l h =
    let h' = simp diffs at (rw (diff ram, diff flow, diff l) at h) in
    rw (diff ram, diff flow, diff l) (simp diffs (omega (zarith, h')))
