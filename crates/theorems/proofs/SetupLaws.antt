-- The laws of a setup (setup: specs/Setup.antt): its grid and its start, its judgement, a border that no row loads, and that N and L are over the marked borders.
-- No contract cites this file.
use Rattle.std.specs.Prelude.{None, Ok, Option, Some}
use mathlib.Core.Path.{◌≡◌, refl, ◌∙◌}
use mathlib.Core.Bool.{Bool, true, false, cond, not, ◌&&◌, false≢true}
use mathlib.Core.List.{List}
use Prim.Native.Nat.{ℕ, zero, suc, ◌/◌, ◌<◌}
use native.Mathlib.Omega.{arith}
use borrow.Author.Tests.{ltb-true, not-false}
use lib.Dec.{ltb}
use Rattle.numbers.specs.Ints.{positive_part}
use Rattle.numbers.specs.Below.{at, if_zero, count, least, or_zero, first_from, some_below}
use Rattle.numbers.proofs.BelowLaws.{count_cong, table_get}
use Rattle.numbers.proofs.FirstLaws.{some_has}
use Rattle.refusals.specs.Refusals.{then, unless, refuse_at, refuse_first, no_row, unlimited, below_zero}
use Rattle.refusals.proofs.RefusalLaws.{unless_passed, none_passed}
use Rattle.rounds.specs.Rounds.{Grid, State, sharers, raise, alone, Rounds, done, more}
use Rattle.rounds.proofs.LeastLaws.{Least, least_is}
use Rattle.rounds.proofs.Round.{next_x, raises_at}
use Rattle.setup.specs.Setup.{Setup, grid_by, begin_by, free_by, low_by, judge_by}

-- ---- its grid and its start
module _ (s : Setup) where
  -- a row that loads a border takes part
  masked : (m k : Bool) (p : ℕ) → 0 < cond (m && k) p 0 → k ≡ true
  masked true true p h = refl
  masked true false p h = absurd (omega arith)
  masked false k p h = absurd (omega arith)

  pub loads_takes : (i b : ℕ) → 0 < (grid_by s).p i b → s.takes i ≡ true
  unfolding grid_by
  loads_takes i b h = masked (s.marked b) (s.takes i) (s.p i b) h

  pub margin_at_lem : (i : ℕ) → i < s.rows → s.takes i ≡ true → at (begin_by s).margins i ≡ positive_part (s.margin i)
  unfolding begin_by
  margin_at_lem i h k = table_get s.rows (λ i. cond (s.takes i) (positive_part (s.margin i)) 0) i 0 h ∙ (rw k)

  pub from_at : (b : ℕ) → b < s.borders → at (begin_by s).x b ≡ s.from b
  unfolding begin_by
  from_at b h = table_get s.borders s.from b 0 h

  pub p_marked : (i b : ℕ) → s.takes i ≡ true → s.marked b ≡ true → (grid_by s).p i b ≡ s.p i b
  unfolding grid_by
  p_marked i b k m = rw (m, k)

  pub p_unmarked : (i b : ℕ) → s.marked b ≡ false → (grid_by s).p i b ≡ 0
  unfolding grid_by
  p_unmarked i b m = rw m

-- ---- its judgement hands on what it is given
pub then_judged : {A B : Type 0} (s : Setup) (a : A) (f : A → B) → then (judge_by s a) (λ a. Ok (f a)) ≡ judge_by s (f a)
unfolding judge_by refuse_first then unless refuse_at
then_judged {A} {B} s a f = go (some_below s.rows s.takes) (first_from s.borders 0 (free_by s)) (first_from s.rows 0 (low_by s))
  where
    go : (k : Bool) (o q : Option ℕ) → then (unless k no_row (refuse_at o unlimited (refuse_at q below_zero (Ok a)))) (λ a. Ok (f a)) ≡ unless k no_row (refuse_at o unlimited (refuse_at q below_zero (Ok (f a))))
    go false o q = refl
    go true (Some b) q = refl
    go true None (Some i) = refl
    go true None None = refl

-- ---- of an accepted setup each marked border is loaded by some row that takes part
and_not : (m f : Bool) → (m && not f) ≡ false → m ≡ true → f ≡ true
and_not true f e k = not-false f e
and_not false f e k = absurd (false≢true k)

pub marked_loaded : {A : Type 0} (s : Setup) (a r : A) → judge_by s a ≡ Ok r → (b : ℕ) → b < s.borders → s.marked b ≡ true → (i : ℕ) × (i < s.rows) × (0 < (grid_by s).p i b)
unfolding judge_by
marked_loaded s a r e b h m =
    let free = (none_passed _ _ _ _ r (unless_passed r _ _ _ e).1).0 b h in
    let w = some_has s.rows (λ i. ltb 0 ((grid_by s).p i b)) (and_not (s.marked b) _ free m) in
    (w.0, w.1, ltb-true 0 ((grid_by s).p w.0 b) w.2)

-- ---- a border that no row loads stays where it is
unloaded_raise : (g : Grid) (m : List ℕ) (b : ℕ) → ((r : ℕ) → r < g.rows → g.p r b ≡ 0) → raise g m b ≡ 0
unfolding raise or_zero
unloaded_raise g m b z = go (λ r. at m r / sharers g r / g.p r b) (least g.rows (λ r. g.p r b) (λ r. at m r / sharers g r / g.p r b)) (least_is g.rows (λ r. g.p r b) (λ r. at m r / sharers g r / g.p r b))
  where
    go : (f : ℕ → ℕ) (o : Option ℕ) → Least g.rows (λ r. g.p r b) f o → or_zero o ≡ 0
    go f None n = refl
    go f (Some u) s = absurd (omega (arith, s.counts, z s.i s.below))

pub unloaded_stays : {g : Grid} {s t : State} {k : ℕ} → Rounds g s k t → (b : ℕ) → b < g.borders → ((r : ℕ) → r < g.rows → g.p r b ≡ 0) → at t.x b ≡ at s.x b
unloaded_stays (done e) b h z = refl
unloaded_stays {g} (more {s = s} l w) b h z = omega (arith, unloaded_stays w b h z, next_x g s b h, raises_at g s.margins b h, unloaded_raise g s.margins b z)

-- ---- N and L are over the marked borders
zeros : (n : ℕ) → count n (λ b. 0) ≡ 0
unfolding count if_zero
zeros zero = refl
zeros (suc n) = omega (arith, zeros n)

module _ (s : Setup) where
  -- n of a row that takes part counts the marked borders with p > 0
  pub n_marked : (i : ℕ) → s.takes i ≡ true → sharers (grid_by s) i ≡ count s.borders (λ b. cond (s.marked b) (s.p i b) 0)
  unfolding sharers grid_by
  n_marked i k = count_cong s.borders _ _ (λ b h. go (s.marked b) (s.takes i) k (s.p i b))
    where
      go : (m t : Bool) → t ≡ true → (p : ℕ) → cond (m && t) p 0 ≡ cond m p 0
      go true t e p = rw e
      go false t e p = refl

  -- n of a row that takes no part is 0
  pub n_other : (i : ℕ) → s.takes i ≡ false → sharers (grid_by s) i ≡ 0
  unfolding sharers grid_by
  n_other i k = count_cong s.borders _ (λ b. 0) (λ b h. go (s.marked b) (s.takes i) k (s.p i b)) ∙ zeros s.borders
    where
      go : (m t : Bool) → t ≡ false → (p : ℕ) → cond (m && t) p 0 ≡ 0
      go true t e p = rw e
      go false t e p = refl

  -- L: a border that is not marked could take nothing alone
  pub alone_unmarked : (m : List ℕ) (b : ℕ) → s.marked b ≡ false → alone (grid_by s) m b ≡ 0
  unfolding alone or_zero
  alone_unmarked m b q = go (λ r. at m r / (grid_by s).p r b) (least (grid_by s).rows (λ r. (grid_by s).p r b) (λ r. at m r / (grid_by s).p r b)) (least_is (grid_by s).rows (λ r. (grid_by s).p r b) (λ r. at m r / (grid_by s).p r b))
    where
      go : (f : ℕ → ℕ) (o : Option ℕ) → Least (grid_by s).rows (λ r. (grid_by s).p r b) f o → or_zero o ≡ 0
      go f None n = refl
      go f (Some u) w = absurd (omega (arith, w.counts, p_unmarked s w.i b q))
