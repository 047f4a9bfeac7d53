-- The laws of a search that found something (`specs/Below.antt`'s `first_from`). No contract cites this file.
use Rattle.std.specs.Prelude.{None, Option, Some}
use mathlib.Core.Path.{◌≡◌, refl, sym, ap, subst, ◌∙◌}
use mathlib.Core.Bool.{Bool, true, false, cond, false≢true}
use mathlib.Core.Logic.{⊎_elim}
use Prim.Native.Nat.{ℕ, zero, suc, ◌+◌, ◌≤◌, ◌<◌}
use native.Mathlib.Omega.{arith}
use Rattle.numbers.specs.Below.{first_from, given, some_below}
use Rattle.numbers.proofs.BelowLaws.{some_none, le_or_lt}

some_is : {A : Type 0} (a b : A) → Some a ≡ Some b → a ≡ b
some_is a b e = cc

find_within : (left i : ℕ) (test : ℕ → Bool) (k : ℕ) → Some k ≡ first_from left i test → k < i + left
unfolding first_from
find_within zero i test k e = absurd (some_none e)
find_within (suc left) i test k e = go (test i) (find_within left (i + 1) test k) e
  where
    go : (t : Bool) → (Some k ≡ first_from left (i + 1) test → k < i + 1 + left) → Some k ≡ cond t (Some i) (first_from left (i + 1) test) → k < i + suc left
    go true ih e = omega (arith, some_is k i e)
    go false ih e = omega (arith, ih e)

-- what was found lies below the bound
pub first_within : (n : ℕ) (test : ℕ → Bool) {k : ℕ} → Some k ≡ first_from n 0 test → k < n
first_within n test {k} e = omega (arith, find_within n 0 test k e)

find_holds : (left i : ℕ) (test : ℕ → Bool) (k : ℕ) → Some k ≡ first_from left i test → test k ≡ true
unfolding first_from
find_holds zero i test k e = absurd (some_none e)
find_holds (suc left) i test k e = go (test i) refl (find_holds left (i + 1) test k) e
  where
    go : (t : Bool) → test i ≡ t → (Some k ≡ first_from left (i + 1) test → test k ≡ true) → Some k ≡ cond t (Some i) (first_from left (i + 1) test) → test k ≡ true
    go true q ih e = ap test (some_is k i e) ∙ q
    go false q ih e = ih e

-- the test holds of what was found
pub first_holds : (n : ℕ) (test : ℕ → Bool) {k : ℕ} → Some k ≡ first_from n 0 test → test k ≡ true
first_holds n test {k} e = find_holds n 0 test k e

find_before : (left i : ℕ) (test : ℕ → Bool) (k : ℕ) → Some k ≡ first_from left i test → (j : ℕ) → i ≤ j → j < k → test j ≡ false
unfolding first_from
find_before zero i test k e j l h = absurd (some_none e)
find_before (suc left) i test k e j l h = go (test i) refl (find_before left (i + 1) test k) e
  where
    go : (t : Bool) → test i ≡ t → (Some k ≡ first_from left (i + 1) test → (j : ℕ) → i + 1 ≤ j → j < k → test j ≡ false)
        → Some k ≡ cond t (Some i) (first_from left (i + 1) test) → test j ≡ false
    go true q ih e = let z : ⊥ = omega (arith, some_is k i e) in absurd z
    go false q ih e = ⊎_elim (λ m. subst (λ (v : ℕ). test v ≡ false) (omega arith) q) (λ m. ih e j (omega arith) h) (le_or_lt j i)

-- the test holds of no index before what was found
pub first_before : (n : ℕ) (test : ℕ → Bool) {k : ℕ} → Some k ≡ first_from n 0 test → (j : ℕ) → j < k → test j ≡ false
first_before n test {k} e j h = find_before n 0 test k e j (omega arith) h

-- an index that the test holds of, where `some_below` says that there is one
pub some_has : (n : ℕ) (test : ℕ → Bool) → some_below n test ≡ true → (k : ℕ) × (k < n) × (test k ≡ true)
unfolding given
some_has n test e = go (first_from n 0 test) refl e
  where
    go : (o : Option ℕ) → first_from n 0 test ≡ o → given o ≡ true → (k : ℕ) × (k < n) × (test k ≡ true)
    go None h e = absurd (false≢true e)
    go (Some k) h e = (k, first_within n test (sym h), first_holds n test (sym h))
