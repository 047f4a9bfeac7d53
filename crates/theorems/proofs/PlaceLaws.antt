-- Terms at places that are all different are among those of the whole. No contract cites this file.
use mathlib.Core.Path.{◌≡◌, refl, ap}
use mathlib.Core.Bool.{Bool, true, false, cond}
use Prim.Native.Nat.{ℕ, zero, suc, ◌+◌, ◌≤◌, ◌<◌}
use native.Mathlib.Nat.{not-suc-le-zero, le_refl}
use native.Mathlib.Omega.{arith}
use lib.Dec.{eqb}
use borrow.Author.Tests.{eqb-true, eqb-false, eq-eqb, ne_eqb}
use Rattle.numbers.specs.Below.{sum}
use Rattle.numbers.proofs.BelowLaws.{sum_mono}

-- w, but 0 at place c
module _ (c : ℕ) (w : ℕ → ℕ) where
  abbrev without : ℕ → ℕ
  without k = cond (eqb k c) 0 (w k)

  without-le : (k : ℕ) → without k ≤ w k
  without-le k = go (eqb k c)
    where
      go : (t : Bool) → cond t 0 (w k) ≤ w k
      go true = omega arith
      go false = le_refl (w k)

  without-here : (k : ℕ) → k ≡ c → without k ≡ 0
  without-here k e = rw (eq-eqb k c e)

  without_other : (k : ℕ) → (k ≡ c → ⊥) → without k ≡ w k
  without_other k e = rw (ne_eqb k c e)

  sum-without : (m : ℕ) → c < m → sum m without + w c ≤ sum m w
  unfolding sum
  sum-without zero h = absurd (not-suc-le-zero h)
  sum-without (suc m) h = go (sum-without m) (eqb m c) refl
    where
      go : (c < m → sum m without + w c ≤ sum m w) → (t : Bool) → eqb m c ≡ t → sum m without + without m + w c ≤ sum m w + w m
      go ih true e = omega (arith, sum_mono m without w (λ k l. without-le k), without-here m (eqb-true m c e), ap w (eqb-true m c e))
      go ih false e =
          let l : c < m = omega (arith, eqb-false m c e) in
          omega (arith, ih l, without-le m)

pub sum_places : (n m : ℕ) (place w : ℕ → ℕ) → ((b : ℕ) → b < n → place b < m) → ((b e : ℕ) → e < b → b < n → place e ≡ place b → ⊥) → sum n (λ b. w (place b)) ≤ sum m w
unfolding sum
sum_places zero m place w low apart = omega arith
sum_places (suc n) m place w low apart =
    let c = place n in
    omega (
      arith,
      sum_mono n (λ b. w (place b)) (λ b. without c w (place b)) (λ b h. omega (arith, without_other c w (place b) (apart n b h (le_refl (suc n))))),
      sum_places n m place (without c w) (λ b h. low b (omega arith)) (λ b e h l. apart b e h (omega arith)),
      sum-without c w m (low n (le_refl (suc n))),
    )
