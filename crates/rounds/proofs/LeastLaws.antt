-- The laws of `least`, and of division, that the rounds cite.
use Rattle.std.specs.Prelude.{None, Option, Some}
use mathlib.Core.Path.{◌≡◌, refl, sym, ap, ◌∙◌, subst}
use mathlib.Core.Logic.{⊎_elim}
use Prim.Native.Nat.{ℕ, zero, suc, ◌/◌, ◌≤◌, ◌<◌, min}
use native.Mathlib.Nat.{not-suc-le-zero, le_trans, zero-lt-suc, mul_comm, mul-le-mul_left, div-zero, le-div_iff_mul-le, div-mul-le_self, div-div-eq-div-mul}
use native.Mathlib.Omega.{arith, min_cases}
use Rattle.numbers.specs.Below.{if_zero, lesser, least, or_zero}
use Rattle.numbers.proofs.BelowLaws.{lt_suc_cases}

-- What `least` finds: nothing where nothing counts; else one that counts, with no smaller one that counts.
pub record Smallest (k : ℕ) (w f : ℕ → ℕ) (u : ℕ) : Type 0 where
  pub i : ℕ
  pub below : i < k
  pub counts : 0 < w i
  pub is : f i ≡ u
  pub lowest : (j : ℕ) → j < k → 0 < w j → u ≤ f j

abbrev pub Least : ℕ → (ℕ → ℕ) → (ℕ → ℕ) → Option ℕ → Type 0
Least k w f None = (i : ℕ) → i < k → w i ≡ 0
Least k w f (Some u) = Smallest k w f u

smaller : (k : ℕ) (w f : ℕ → ℕ) (u : ℕ) → Smallest k w f u → 0 < w k → Smallest (suc k) w f (min u (f k))
smaller k w f u s m =
    min_cases u (f k) (Smallest (suc k) w f (min u (f k)))
    (λ a e. record {
      i = s.i;
      below = omega arith;
      counts = s.counts;
      is = omega (arith, s.is);
      lowest = λ j l b. ⊎_elim (λ c. omega (arith, s.lowest j c b)) (λ d. omega (arith, ap f d)) (lt_suc_cases j k l);
    })
    (λ a e. record {
      i = k;
      below = omega arith;
      counts = m;
      is = omega arith;
      lowest = λ j l b. ⊎_elim (λ c. omega (arith, s.lowest j c b)) (λ d. omega (arith, ap f d)) (lt_suc_cases j k l);
    })

pub least_is : (k : ℕ) (w f : ℕ → ℕ) → Least k w f (least k w f)
unfolding least if_zero lesser
least_is zero w f = λ i l. absurd (not-suc-le-zero l)
least_is (suc k) w f = go (least k w f) (least_is k w f) (w k) refl
  where
    go : (o : Option ℕ) → Least k w f o → (v : ℕ) → w k ≡ v → Least (suc k) w f (if_zero v o (Some (lesser o (f k))))
    go None n zero e = λ i l. ⊎_elim (λ a. n i a) (λ d. omega (arith, ap w d)) (lt_suc_cases i k l)
    go None n (suc v) e =
        record {
          i = k;
          below = omega arith;
          counts = omega arith;
          is = refl;
          lowest = λ j l m. ⊎_elim (λ a. omega (arith, n j a)) (λ d. omega (arith, ap f d)) (lt_suc_cases j k l);
        }
    go (Some u) s zero e =
        record {
          i = s.i;
          below = omega (arith, s.below);
          counts = s.counts;
          is = s.is;
          lowest = λ j l m. ⊎_elim (λ a. s.lowest j a m) (λ d. omega (arith, ap w d)) (lt_suc_cases j k l);
        }
    go (Some u) s (suc v) e = smaller k w f u s (omega arith)

-- The smallest is at most each that counts. (This and `least-some` are the two laws that the rest uses.)
pub least_le : (k : ℕ) (w f : ℕ → ℕ) (j : ℕ) → j < k → 0 < w j → or_zero (least k w f) ≤ f j
unfolding or_zero
least_le k w f j l m = go (least k w f) (least_is k w f)
  where
    go : (o : Option ℕ) → Least k w f o → or_zero o ≤ f j
    go None n = omega (arith, n j l)
    go (Some u) s = s.lowest j l m

-- Where one counts, the smallest is one that counts.
pub least_some : (k : ℕ) (w f : ℕ → ℕ) (j : ℕ) → j < k → 0 < w j → Smallest k w f (or_zero (least k w f))
unfolding or_zero
least_some k w f j l m = go (least k w f) (least_is k w f)
  where
    go : (o : Option ℕ) → Least k w f o → Smallest k w f (or_zero o)
    go None n = absurd (not-suc-le-zero (subst (λ (v : ℕ). 0 < v) (n j l) m))
    go (Some u) s = s

-- A smallest above 0 is one that counts.
pub least_one : (k : ℕ) (w f : ℕ → ℕ) → 0 < or_zero (least k w f) → Smallest k w f (or_zero (least k w f))
unfolding or_zero
least_one k w f = go (least k w f) (least_is k w f)
  where
    go : (o : Option ℕ) → Least k w f o → 0 < or_zero o → Smallest k w f (or_zero o)
    go None n l = absurd (not-suc-le-zero l)
    go (Some u) s l = s

-- Of two families, the first's smallest is at most the second's where each of the second that counts has one of the first at or below it,
-- and the second has one that counts where the first has.
pub least_below : (k : ℕ) (w f : ℕ → ℕ) (k' : ℕ) (w' f' : ℕ → ℕ) → ((j : ℕ) → j < k' → 0 < w' j → (i : ℕ) × (i < k) × (0 < w i) × (f i ≤ f' j)) → ((i : ℕ) → i < k → 0 < w i → (j : ℕ) × (j < k') × (0 < w' j)) → or_zero (least k w f) ≤ or_zero (least k' w' f')
unfolding or_zero
least_below k w f k' w' f' a b = go (least k w f) (least_is k w f) (least k' w' f') (least_is k' w' f')
  where
    go : (o : Option ℕ) → Least k w f o → (o' : Option ℕ) → Least k' w' f' o' → or_zero o ≤ or_zero o'
    go None n o' s' = omega arith
    go (Some u) s None n' =
        let j : (j : ℕ) × (j < k') × (0 < w' j) = b s.i s.below s.counts in
        omega (arith, n' j.0 j.1)
    go (Some u) s (Some u') s' =
        let i : (i : ℕ) × (i < k) × (0 < w i) × (f i ≤ f' s'.i) = a s'.i s'.below s'.counts in
        omega (arith, s.lowest i.0 i.1 i.2, s'.is)

pub least_mono : (k : ℕ) (w f f' : ℕ → ℕ) → ((i : ℕ) → i < k → 0 < w i → f i ≤ f' i) → or_zero (least k w f) ≤ or_zero (least k w f')
least_mono k w f f' h = least_below k w f k w f' (λ j l m. (j, l, m, h j l m)) (λ i l m. (i, l, m))

-- ---- division
-- Division by the same number keeps the order.
pub div_mono : (n : ℕ) {a b : ℕ} → a ≤ b → a / n ≤ b / n
div_mono zero {a} {b} h = omega (arith, div-zero a)
div_mono (suc n) {a} {b} h = (le-div_iff_mul-le (zero-lt-suc n)).1 (omega (arith, div-mul-le_self a (suc n)))

-- Division by a larger number gives no more.
pub div_anti : (a : ℕ) {n m : ℕ} → 0 < n → n ≤ m → a / m ≤ a / n
div_anti a {n} {m} z h = (le-div_iff_mul-le z).1 (le_trans (mul-le-mul_left (a / m) h) (div-mul-le_self a m))

pub div_swap : (a n m : ℕ) → a / n / m ≡ a / m / n
div_swap a n m = div-div-eq-div-mul a n m ∙ ap (λ (v : ℕ). a / v) (mul_comm n m) ∙ sym (div-div-eq-div-mul a m n)
