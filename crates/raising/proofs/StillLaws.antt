-- Whether one of the listed borders rises: of the first j none does (`Still`). No contract cites this file.
use mathlib.Core.Path.{◌≡◌, sym, ap}
use mathlib.Core.Bool.{true, false}
use mathlib.Core.List.{List}
use mathlib.Core.Logic.{⊎_elim}
use Prim.Native.Nat.{ℕ, ◌+◌, ◌≤◌, ◌<◌}
use native.Mathlib.Nat.{not-suc-le-zero}
use native.Mathlib.Numerals.{add-one}
use native.Mathlib.Omega.{arith}
use borrow.Author.Tests.{lt-ltb, le-ltb}
use lib.Dec.{ltb}
use lib.ListN.{length}
use Rattle.numbers.specs.Below.{at, count}
use Rattle.numbers.proofs.BelowLaws.{lt_suc_cases, le_or_lt, count_pos, count_some}
use Rattle.walk.specs.Walk.{Listed}
use Rattle.walk.proofs.ListedLaws.{listed_has}

-- of the first j listed borders none rises
pub record Still (v list : List ℕ) (j : ℕ) : Type 0 where
  pub high : j ≤ length list
  pub none : (j' : ℕ) → j' < j → at v (at list j') ≤ 0

pub still_none : (v list : List ℕ) → Still v list 0
still_none v list = record { high = omega arith; none = λ j' h. absurd (not-suc-le-zero h) }

pub still_more : {v list : List ℕ} {j : ℕ} → Still v list j → j < length list → at v (at list j) ≤ 0 → Still v list (j + 1)
still_more {v} {list} {j} u hj z =
    record { high = omega arith; none = λ j' h. ⊎_elim (λ a. u.none j' a) (λ y. rw y z) (lt_suc_cases j' j (rw add-one at h)) }

module _ {borders : ℕ} {v list : List ℕ} {j : ℕ} (q : Listed borders v list) where
  pub still_some : j < length list → 0 < at v (at list j) → true ≡ ltb 0 (count borders (at v))
  still_some hj z = sym (lt-ltb 0 (count borders (at v)) (count_pos borders (at v) (at list j) (q.inside j hj) z))

  pub still_all : Still v list j → length list ≤ j → false ≡ ltb 0 (count borders (at v))
  still_all u h =
      sym
      (le-ltb 0 (count borders (at v))
      (⊎_elim
      (λ z. z)
      (λ z.
      let b = count_some borders (at v) z in
      let s = listed_has q b.0 b.1 b.2 in
      omega (arith, u.none s.0 (omega (arith, s.1)), ap (at v) s.2, b.2))
      (le_or_lt (count borders (at v)) 0)))
