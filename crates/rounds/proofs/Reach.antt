-- How far the rounds can take a border. No contract cites this file.
use mathlib.Core.Path.{◌≡◌, refl}
use mathlib.Core.Bool.{Bool, true, false}
use mathlib.Core.List.{List}
use mathlib.Core.Logic.{⊎_elim}
use Prim.Native.Nat.{ℕ, ◌+◌, ◌*◌, ◌≤◌, ◌<◌}
use native.Mathlib.Nat.{le_refl, mul-le-mul_right, one-mul}
use native.Mathlib.Omega.{arith}
use borrow.Author.Tests.{ltb-true, ltb-false}
use lib.Dec.{ltb}
use Rattle.numbers.specs.Below.{at, some_below}
use Rattle.numbers.proofs.BelowLaws.{le_or_lt, sum_term}
use Rattle.numbers.proofs.FirstLaws.{some_has}
use Rattle.numbers.proofs.TestLaws.{some_false}
use Rattle.rounds.specs.Rounds.{Grid, State, raise, load, Rounds, done, more, extract}
use Rattle.rounds.proofs.Round.{raiser, raises_at, next_x}
use Rattle.rounds.proofs.Rounds.{extracts}
use Rattle.rounds.proofs.Theorems.{extract_demand3}

-- a border with p = 0 at every row does not rise
pub unloaded_raise : (g : Grid) (m : List ℕ) (b : ℕ) → ((i : ℕ) → i < g.rows → g.p i b ≡ 0) → raise g m b ≡ 0
unloaded_raise g m b h =
    ⊎_elim
    (λ l. omega arith)
    (λ l. let s = raiser g m b l in omega (arith, s.counts, h s.i s.below))
    (le_or_lt (raise g m b) 0)

-- one that no row loads stays
stays : {g : Grid} {s t : State} {k : ℕ} → Rounds g s k t → (c : ℕ) → c < g.borders → ((i : ℕ) → i < g.rows → g.p i c ≡ 0) → at t.x c ≡ at s.x c
stays (done e) c h z = refl
stays {g} (more {s = s} l w) c h z = omega (arith, stays w c h z, next_x g s c h, raises_at g s.margins c h, unloaded_raise g s.margins c z)

-- below each number that it starts below and that each row's margin and load at the start are below
pub ends_below : (g : Grid) (s : State) (c B : ℕ) → c < g.borders → at s.x c < B → ((i : ℕ) → i < g.rows → at s.margins i + load g i s.x < B) → at (extract g s).state.x c < B
unfolding load
ends_below g s c B h low fits = go (some_below g.rows (λ i. ltb 0 (g.p i c))) refl
  where
    end : List ℕ
    end = (extract g s).state.x

    go : (t : Bool) → some_below g.rows (λ i. ltb 0 (g.p i c)) ≡ t → at end c < B
    go true e =
        let i = some_has g.rows (λ i. ltb 0 (g.p i c)) e in
        let loads : 1 ≤ g.p i.0 c = ltb-true 0 (g.p i.0 c) i.2 in
        let part : 1 * at end c ≤ g.p i.0 c * at end c = mul-le-mul_right (at end c) loads in
        omega (
          arith,
          one-mul (at end c),
          sum_term g.borders (λ b. g.p i.0 b * at end b) c h,
          (extract_demand3 g s).within end (λ b l. le_refl _) i.0 i.1,
          fits i.0 i.1,
        )
    go false e =
        omega (arith, stays (extracts g s) c h (λ i l. let z : g.p i c ≤ 0 = ltb-false 0 (g.p i c) (some_false g.rows (λ i. ltb 0 (g.p i c)) e i l) in omega arith))
