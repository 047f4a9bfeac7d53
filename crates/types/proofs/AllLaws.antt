-- The laws of `all_true` (`specs/Ranges.antt`): all tests hold where each does; tests in two parts; factors; the loop that joins tests, `Joined`.
-- No contract cites this file.
use mathlib.Core.Path.{◌≡◌, refl, sym, ap, ◌∙◌}
use mathlib.Core.Bool.{Bool, true, ◌&&◌, and-eq-true_iff, and-true, and_assoc}
use mathlib.Core.List.{List, [], ◌∷◌, ◌++◌}
use Prim.Native.Nat.{ℕ, zero, suc, ◌+◌, ◌≤◌, ◌<◌}
use native.Mathlib.Numerals.{add-one}
use native.Mathlib.Omega.{arith}
use lib.IntN.{ℤ}
use lib.ListN.{length, get_or, drop, drop_of_length-le}
use lib.Seq.{drop-cons}
use Rattle.types.specs.Ranges.{at_ℤ, all_true, factor_fits, factor_tests}

pub all_at : (ts : List Bool) → all_true ts ≡ true → (k : ℕ) → get_or ts k true ≡ true
all_at [] e k = refl
all_at (t ∷ ts) e zero = ((and-eq-true_iff t (all_true ts)).0 e).0
all_at (t ∷ ts) e (suc k) = all_at ts ((and-eq-true_iff t (all_true ts)).0 e).1 k

pub all_of : (ts : List Bool) → ((k : ℕ) → k < length ts → get_or ts k true ≡ true) → all_true ts ≡ true
all_of [] h = refl
all_of (t ∷ ts) h = (and-eq-true_iff t (all_true ts)).1 (h 0 (omega arith), all_of ts (λ k l. h (suc k) (omega arith)))

pub all_join : (ts us : List Bool) → all_true (ts ++ us) ≡ (all_true ts && all_true us)
all_join [] us = refl
all_join (t ∷ ts) us = ap (λ (x : Bool). t && x) (all_join ts us) ∙ sym (and_assoc t (all_true ts) (all_true us))

-- ---- factors
pub tests_length : (fs : List ℤ) → length (factor_tests fs) ≡ length fs
tests_length [] = refl
tests_length (f ∷ fs) = ap suc (tests_length fs)

pub test_at : (fs : List ℤ) (j : ℕ) → j < length fs → (d : Bool) → get_or (factor_tests fs) j d ≡ factor_fits (at_ℤ fs j)
test_at [] j h d = absurd (omega arith)
test_at (f ∷ fs) zero h d = refl
test_at (f ∷ fs) (suc j) h d = test_at fs j (omega arith) d

module _ (fs : List ℤ) where
  pub factors_each : all_true (factor_tests fs) ≡ true → (z : ℕ) → z < length fs → factor_fits (at_ℤ fs z) ≡ true
  factors_each e z h = sym (test_at fs z h true) ∙ all_at (factor_tests fs) e z

  pub factors_all : ((z : ℕ) → z < length fs → factor_fits (at_ℤ fs z) ≡ true) → all_true (factor_tests fs) ≡ true
  factors_all f = all_of (factor_tests fs) (λ z h. let l : z < length fs = omega (arith, tests_length fs) in test_at fs z l true ∙ f z l)

-- ---- the loop over tests: `held` says whether the first j hold
module _ (tests : List Bool) where
  pub record Joined (held : Bool) (j : ℕ) : Type 0 where
    pub high : j ≤ length tests
    pub so_far : (held && all_true (drop j tests)) ≡ all_true tests

  pub joined_none : Joined true 0
  joined_none = record { high = omega arith; so_far = refl }

  module _ (held : Bool) (j : ℕ) (u : Joined held j) where
    pub joined_more : (d : Bool) → j < length tests → Joined (held && get_or tests j d) (j + 1)
    joined_more d h =
        record {
          high = omega arith;
          so_far =
              and_assoc held (get_or tests j d) (all_true (drop (j + 1) tests))
              ∙ ap (λ (l : List Bool). held && all_true l) (ap (λ (i : ℕ). get_or tests j d ∷ drop i tests) (add-one j) ∙ sym (drop-cons tests j d h))
              ∙ u.so_far;
        }

    pub joined_all : length tests ≤ j → held ≡ all_true tests
    joined_all h = sym (ap (λ (l : List Bool). held && all_true l) (drop_of_length-le tests h) ∙ and-true held) ∙ u.so_far
