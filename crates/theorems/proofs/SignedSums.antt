-- Sums of signed numbers (`sum_ℤ`, numbers: specs/Ints): of two terms each, of terms times one number, in either order, and of terms that are at most others.
-- No contract cites this file.
use mathlib.Core.Path.{◌≡◌, refl, sym, ap, ◌∙◌}
use Prim.Native.Nat.{ℕ, zero, suc, ◌+◌, ◌*◌, ◌≤◌, ◌<◌}
use native.Mathlib.Nat.{mul-add, add-mul, mul_assoc, mul-le-mul_left, le_of_mul-le-mul_left, zero-lt-suc}
use native.Mathlib.Omega.{arith}
use lib.IntN.{ℤ, pos, ◌+ℤ◌, ◌*ℤ◌, *ℤ-zero, zero-*ℤ}
use lib.Signed.{◌≤ℤ◌, ≤ℤ_refl}
use Rattle.numbers.specs.Ints.{sum_ℤ}
use Rattle.numbers.proofs.IntLaws.{up, dn, diff, diffs, zarith}

pub add_mul_ℤ : (x y z : ℤ) → (x +ℤ y) *ℤ z ≡ x *ℤ z +ℤ y *ℤ z
add_mul_ℤ x y z = rw (diff x, diff y, diff z) (simp diffs (simp add-mul (omega zarith)))

mul_add_ℤ : (x y z : ℤ) → x *ℤ (y +ℤ z) ≡ x *ℤ y +ℤ x *ℤ z
mul_add_ℤ x y z = rw (diff x, diff y, diff z) (simp diffs (simp mul-add (omega zarith)))

pub mul_assoc_ℤ : (x y z : ℤ) → x *ℤ y *ℤ z ≡ x *ℤ (y *ℤ z)
mul_assoc_ℤ x y z = rw (diff x, diff y, diff z) (simp diffs (simp (mul-add, add-mul, mul_assoc) (omega zarith)))

-- four terms, the middle two exchanged
swapped : (a b c d : ℤ) → (a +ℤ b) +ℤ (c +ℤ d) ≡ (a +ℤ c) +ℤ (b +ℤ d)
swapped a b c d = rw (diff a, diff b, diff c, diff d) (simp diffs (omega zarith))

-- ---- sums
pub sum_ℤ_add : (k : ℕ) (f g : ℕ → ℤ) → sum_ℤ k (λ i. f i +ℤ g i) ≡ sum_ℤ k f +ℤ sum_ℤ k g
unfolding sum_ℤ
sum_ℤ_add zero f g = refl
sum_ℤ_add (suc k) f g = ap (λ (s : ℤ). s +ℤ (f k +ℤ g k)) (sum_ℤ_add k f g) ∙ swapped (sum_ℤ k f) (sum_ℤ k g) (f k) (g k)

sum_ℤ_none : (k : ℕ) → sum_ℤ k (λ i. pos 0) ≡ pos 0
unfolding sum_ℤ
sum_ℤ_none zero = refl
sum_ℤ_none (suc k) = ap (λ (s : ℤ). s +ℤ pos 0) (sum_ℤ_none k)

pub sum_ℤ_left : (k : ℕ) (x : ℤ) (f : ℕ → ℤ) → sum_ℤ k (λ i. x *ℤ f i) ≡ x *ℤ sum_ℤ k f
unfolding sum_ℤ
sum_ℤ_left zero x f = sym (*ℤ-zero x)
sum_ℤ_left (suc k) x f = ap (λ (s : ℤ). s +ℤ x *ℤ f k) (sum_ℤ_left k x f) ∙ sym (mul_add_ℤ x (sum_ℤ k f) (f k))

pub sum_ℤ_right : (k : ℕ) (f : ℕ → ℤ) (x : ℤ) → sum_ℤ k (λ i. f i *ℤ x) ≡ sum_ℤ k f *ℤ x
unfolding sum_ℤ
sum_ℤ_right zero f x = sym (zero-*ℤ x)
sum_ℤ_right (suc k) f x = ap (λ (s : ℤ). s +ℤ f k *ℤ x) (sum_ℤ_right k f x) ∙ sym (add_mul_ℤ (sum_ℤ k f) (f k) x)

-- a table of numbers, summed by rows or by columns
pub sum_ℤ_swap : (k n : ℕ) (f : ℕ → ℕ → ℤ) → sum_ℤ k (λ i. sum_ℤ n (λ j. f i j)) ≡ sum_ℤ n (λ j. sum_ℤ k (λ i. f i j))
unfolding sum_ℤ
sum_ℤ_swap zero n f = sym (sum_ℤ_none n)
sum_ℤ_swap (suc k) n f = ap (λ (s : ℤ). s +ℤ sum_ℤ n (f k)) (sum_ℤ_swap k n f) ∙ sym (sum_ℤ_add n (λ j. sum_ℤ k (λ i. f i j)) (f k))

-- ---- order
add_le_ℤ : (a b c d : ℤ) → a ≤ℤ b → c ≤ℤ d → (a +ℤ c) ≤ℤ (b +ℤ d)
add_le_ℤ a b c d h k =
    let h' = simp diffs at (rw (diff a, diff b) at h) in
    let k' = simp diffs at (rw (diff c, diff d) at k) in
    rw (diff a, diff b, diff c, diff d) (simp diffs (omega (zarith, h', k')))

pub trans_le_ℤ : (a b c : ℤ) → a ≤ℤ b → b ≤ℤ c → a ≤ℤ c
trans_le_ℤ a b c h k =
    let h' = simp diffs at (rw (diff a, diff b) at h) in
    let k' = simp diffs at (rw (diff b, diff c) at k) in
    rw (diff a, diff c) (simp diffs (omega (zarith, h', k')))

pub sum_ℤ_mono : (k : ℕ) (f g : ℕ → ℤ) → ((i : ℕ) → i < k → f i ≤ℤ g i) → sum_ℤ k f ≤ℤ sum_ℤ k g
unfolding sum_ℤ
sum_ℤ_mono zero f g h = ≤ℤ_refl (pos 0)
sum_ℤ_mono (suc k) f g h = add_le_ℤ (sum_ℤ k f) (sum_ℤ k g) (f k) (g k) (sum_ℤ_mono k f g (λ i l. h i (omega arith))) (h k (omega arith))

-- times a natural number, and back where it is not 0
pub times_le_ℤ : (n : ℕ) (x y : ℤ) → x ≤ℤ y → (pos n *ℤ x) ≤ℤ (pos n *ℤ y)
times_le_ℤ n x y h =
    let h' = simp diffs at (rw (diff x, diff y) at h) in
    rw (diff x, diff y) (simp diffs (omega (zarith, mul-le-mul_left n h', mul-add n (up x) (dn y), mul-add n (up y) (dn x))))

pub cancel_le_ℤ : (n : ℕ) (x y : ℤ) → (pos (suc n) *ℤ x) ≤ℤ (pos (suc n) *ℤ y) → x ≤ℤ y
cancel_le_ℤ n x y h =
    let h' = simp diffs at (rw (diff x, diff y) at h) in
    let l : suc n * (up x + dn y) ≤ suc n * (up y + dn x) = omega (arith, h', mul-add (suc n) (up x) (dn y), mul-add (suc n) (up y) (dn x)) in
    rw (diff x, diff y) (simp diffs (le_of_mul-le-mul_left l (zero-lt-suc n)))
