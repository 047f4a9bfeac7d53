-- What tests tell: of two that hold together, and of a test that holds of every index below a bound. No contract cites this file.
-- `zero_one` ends a case that cannot be: `cc` has two constructors that are equal give any equation, this one too.
use Rattle.std.specs.Prelude.{None, Option, Some}
use mathlib.Core.Path.{◌≡◌, refl, sym, ap, ◌∙◌}
use mathlib.Core.Bool.{Bool, true, false, not, ◌&&◌, ◌||◌, false≢true}
use Prim.Native.Nat.{ℕ, ◌<◌}
use native.Mathlib.Omega.{arith}
use borrow.Author.Tests.{not-true, not-false}
use Rattle.numbers.specs.Below.{first_from, given, some_below, all_below}
use Rattle.numbers.proofs.BelowLaws.{first_none, first_nothing}

pub zero_one : ◌≡◌ {A = ℕ} 0 1 → ⊥
zero_one e = omega arith

pub and_both : (t u : Bool) → (t && u) ≡ true → (t ≡ true) × (u ≡ true)
and_both true u e = (refl, e)
and_both false u e = absurd (false≢true e)

pub both_and : (t u : Bool) → t ≡ true → u ≡ true → (t && u) ≡ true
both_and t u a b = rw (a, b)

pub or_neither : (t u : Bool) → (t || u) ≡ false → (t ≡ false) × (u ≡ false)
or_neither true u e = absurd (false≢true (sym e))
or_neither false u e = (refl, e)

pub true_false : {A : Type 0} {t : Bool} → t ≡ true → t ≡ false → A
true_false e q = absurd (false≢true (sym q ∙ e))

-- ---- some_below
given_not : (o : Option ℕ) → given o ≡ false → o ≡ None
unfolding given
given_not None e = refl
given_not (Some i) e = absurd (false≢true (sym e))

module _ (n : ℕ) (test : ℕ → Bool) where
  pub some_false : some_below n test ≡ false → (k : ℕ) → k < n → test k ≡ false
  some_false e k h = first_none n test (given_not (first_from n 0 test) e) k h

  pub false_some : ((k : ℕ) → k < n → test k ≡ false) → some_below n test ≡ false
  unfolding given
  false_some h = ap given (first_nothing n test h)

-- ---- all_below
module _ (n : ℕ) (test : ℕ → Bool) where
  pub all_true_lem : all_below n test ≡ true → (k : ℕ) → k < n → test k ≡ true
  all_true_lem e k h = not-false (test k) (some_false n (λ i. not (test i)) (not-true (some_below n (λ i. not (test i))) e) k h)

  pub true_all : ((k : ℕ) → k < n → test k ≡ true) → all_below n test ≡ true
  true_all h = ap not (false_some n (λ i. not (test i)) (λ k l. ap not (h k l)))
