-- The laws of `specs/Stopping.antt` that code needs: its test of a share finds the row that the definition finds. No contract cites this file.
use mathlib.Core.Path.{◌≡◌, refl, sym, ap, ◌∙◌}
use mathlib.Core.Bool.{◌&&◌}
use mathlib.Core.List.{List}
use mathlib.Core.Logic.{⊎_elim}
use Prim.Native.Nat.{ℕ, zero, suc, ◌*◌, ◌/◌, ◌≤◌, ◌<◌}
use native.Mathlib.Nat.{zero-lt-suc, le-div_iff_mul-le, one-mul}
use native.Mathlib.Omega.{arith}
use borrow.Author.Tests.{lt-ltb, le-ltb}
use lib.Dec.{ltb}
use lib.ListN.{length}
use Rattle.numbers.specs.Below.{at, table}
use Rattle.numbers.proofs.BelowLaws.{le_or_lt, first_cong, table_get, table_cong}
use Rattle.rounds.specs.Rounds.{Grid}
use Rattle.rounds.specs.Stopping.{equal_share, stopping, stop_row}
use Rattle.rounds.specs.AllRounds.{Ready, stop_by}
use Rattle.rounds.proofs.Loops.{ready_at}

-- one kW takes p grains: a share below p gives no whole kW; where p is 0, no share is below it
share_test : (share p : ℕ) → ltb share p ≡ (ltb 0 p && ltb (share / p) 1)
share_test share zero = rw (le-ltb share 0 (omega arith), le-ltb 0 0 (omega arith)) refl
share_test share (suc p) =
    rw (lt-ltb 0 (suc p) (omega arith))
    (⊎_elim
    (λ h. le-ltb share (suc p) h ∙ sym (le-ltb (share / suc p) 1 ((le-div_iff_mul-le (zero-lt-suc p)).1 (rw (one-mul (suc p)) h))))
    (λ h. lt-ltb share (suc p) h ∙ sym (lt-ltb (share / suc p) 1 (under h)))
    (le_or_lt (suc p) share))
  where
    under : share < suc p → share / suc p < 1
    under h =
        ⊎_elim
        (λ m. let e : 1 * suc p ≤ share = (le-div_iff_mul-le (zero-lt-suc p)).0 m in let z : ⊥ = omega (arith, one-mul (suc p)) in absurd z)
        (λ m. m)
        (le_or_lt 1 (share / suc p))

module _ (g : Grid) (left : List ℕ) (b : ℕ) where
  -- the code's test
  pub stop_by_lem : {shares : List ℕ} → shares ≡ table g.rows (equal_share g left) → stop_by g shares b ≡ stop_row g left b
  unfolding stop_row stop_by
  stop_by_lem {shares} e =
      first_cong g.rows (λ i. ltb (at shares i) (g.p i b)) (stopping g left b)
      (λ i h.
      ap (λ (v : ℕ). ltb v (g.p i b)) (ap (λ (l : List ℕ). at l i) e ∙ table_get g.rows (equal_share g left) i 0 h)
      ∙ share_test (equal_share g left i) (g.p i b))

-- the equal shares, from n of each row
pub shares_are : {g : Grid} {ns left : List ℕ} → Ready g ns left → table (length left) (λ i. at left i / at ns i) ≡ table g.rows (equal_share g left)
shares_are {g} {ns} {left} q =
    ap (λ (k : ℕ). table k (λ i. at left i / at ns i)) q.margins
    ∙ table_cong g.rows _ _ (λ i h. ap (λ (n : ℕ). at left i / n) (ready_at q i h))
