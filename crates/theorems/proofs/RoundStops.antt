-- 02, E7: which row stopped a border, and which round raised it last. Of any work of the rules: `Rounds g s k t` says that its k rounds lead from s to t.
-- The table's own words for it, kept rows and factors, are in crate promises (`StoppedBy`).
use Rattle.std.specs.Prelude.{None, Option, Some}
use mathlib.Core.Path.{◌≡◌, refl, sym, ap, subst, ◌∙◌}
use mathlib.Core.Bool.{Bool, true, false, ◌&&◌, true≢false}
use mathlib.Core.List.{List}
use mathlib.Core.Logic.{⊎_elim}
use Prim.Native.Nat.{ℕ, zero, suc, ◌≤◌, ◌<◌}
use native.Mathlib.Nat.{le_trans, not-suc-le-zero}
use native.Mathlib.Omega.{arith}
use borrow.Author.Tests.{ltb-true, ltb-false, lt-ltb, le-ltb}
use lib.Dec.{ltb}
use Rattle.numbers.specs.Below.{if_zero, first_from}
use Rattle.numbers.proofs.BelowLaws.{lt_suc_cases, le_or_lt, first_none, first_nothing}
use Rattle.numbers.proofs.FirstLaws.{first_within, first_holds, first_before}
use Rattle.numbers.proofs.TestLaws.{and_both, both_and}
use Rattle.rounds.specs.Rounds.{Grid, State, next, raised, Rounds, done, more, extract}
use Rattle.rounds.specs.Last.{after, raise_in, last_to, LastRaise, last_round}
use Rattle.rounds.specs.Stopping.{equal_share_kw, stopping, stop_row, Stops}
use Rattle.rounds.proofs.Round.{raise_falls}
use Rattle.rounds.proofs.Reach.{unloaded_raise}
use Rattle.theorems.proofs.Rounds.{stopped}

-- ---- after

-- k rounds after a first round are k + 1 rounds
after_next : (g : Grid) (s : State) (k : ℕ) → after g (next g s) k ≡ after g s (suc k)
unfolding after
after_next g s zero = refl
after_next g s (suc k) = ap (next g) (after_next g s k)

-- after the rounds that are counted the work stands at its end
pub after_rounds : {g : Grid} {s t : State} {k : ℕ} → Rounds g s k t → after g s k ≡ t
unfolding after
after_rounds (done e) = refl
after_rounds {g} (more {s = s} {k = k} l w) = sym (after_next g s k) ∙ after_rounds w

-- each counted round raises something
pub after_raises : {g : Grid} {s t : State} {k : ℕ} → Rounds g s k t → (j : ℕ) → j < k → 0 < raised g (after g s j)
unfolding after
after_raises (done e) j h = absurd (not-suc-le-zero h)
after_raises (more l w) zero h = l
after_raises {g} (more {s = s} l w) (suc j) h = subst (λ (u : State). 0 < raised g u) (after_next g s j) (after_raises w j (omega arith))

-- ---- the last round

module _ (g : Grid) (s : State) (b : ℕ) where
  -- no other number is the last round
  pub last_once : {k l l' : ℕ} → LastRaise g s b k l → LastRaise g s b k l' → l' ≡ l
  last_once {k} {l} {l'} u u' =
      ⊎_elim
      (λ h. ⊎_elim (λ h'. omega arith) (λ m. let z : ⊥ = omega (arith, u.raised (omega arith), u'.no_later l m u.counted) in absurd z) (le_or_lt l l'))
      (λ m. let z : ⊥ = omega (arith, u'.raised (omega arith), u.no_later l' m u'.counted) in absurd z)
      (le_or_lt l' l)

  -- raises never grow, so a border that is raised in a round is raised in each before it
  pub raised_before : (k : ℕ) → 0 < raise_in g s b k → (j : ℕ) → 0 < j → j ≤ k → 0 < raise_in g s b j
  unfolding raise_in after
  raised_before zero h j z l = absurd (not-suc-le-zero h)
  raised_before (suc k) h j z l = ⊎_elim (λ m. raised_before k (earlier k h (omega arith)) j z (omega arith)) (λ q. subst (λ (v : ℕ). 0 < raise_in g s b v) (sym q) h) (lt_suc_cases j (suc k) (omega arith))
    where
      earlier : (k : ℕ) → 0 < raise_in g s b (suc k) → 0 < k → 0 < raise_in g s b k
      earlier zero h z = absurd (not-suc-le-zero z)
      earlier (suc k) h z = le_trans h (raise_falls g (after g s k) b)

  -- a border with p = 0 at every row is raised in no round
  pub unloaded_last : ((i : ℕ) → i < g.rows → g.p i b ≡ 0) → (k : ℕ) → last_to g s b k ≡ 0
  unfolding last_to raise_in if_zero
  unloaded_last h zero = refl
  unloaded_last h (suc k) = rw (unloaded_raise g (after g s k).margins b h) (unloaded_last h k)

-- ---- the stopping row

rest_false : (t u : Bool) → t ≡ true → (t && u) ≡ false → u ≡ false
rest_false true u e h = h
rest_false false u e h = absurd (true≢false (sym e))

module _ (g : Grid) (left : List ℕ) (b : ℕ) where
  -- the row that the definition finds is the row of the statement
  pub stop_row_is : {i : ℕ} → Some i ≡ stop_row g left b → Stops g left b i
  unfolding stop_row
  stop_row_is {i} e =
      let t = and_both (ltb 0 (g.p i b)) (ltb (equal_share_kw g left b i) 1) (first_holds g.rows (stopping g left b) e) in
      record {
        row = first_within g.rows (stopping g left b) e;
        loads = ltb-true 0 (g.p i b) t.0;
        under = ltb-true (equal_share_kw g left b i) 1 t.1;
        first = λ j h l.
            ltb-false (equal_share_kw g left b j) 1
            (rest_false (ltb 0 (g.p j b)) (ltb (equal_share_kw g left b j) 1) (lt-ltb 0 (g.p j b) l) (first_before g.rows (stopping g left b) e j h));
      }

  -- no other row is the row of the statement
  pub stops_once : {i i' : ℕ} → Stops g left b i → Stops g left b i' → i' ≡ i
  stops_once {i} {i'} u u' =
      ⊎_elim
      (λ h. ⊎_elim (λ h'. omega arith) (λ m. let z : ⊥ = omega (arith, u.first i' m u'.loads, u'.under) in absurd z) (le_or_lt i i'))
      (λ m. let z : ⊥ = omega (arith, u'.first i m u.loads, u.under) in absurd z)
      (le_or_lt i' i)

  -- the definition finds a row where there is one
  pub stop_row_found : (i : ℕ) → i < g.rows → 0 < g.p i b → equal_share_kw g left b i < 1 → (r : ℕ) × (Some r ≡ stop_row g left b)
  unfolding stop_row
  stop_row_found i h p l = go (first_from g.rows 0 (stopping g left b)) refl
    where
      go : (o : Option ℕ) → o ≡ first_from g.rows 0 (stopping g left b) → (r : ℕ) × (Some r ≡ first_from g.rows 0 (stopping g left b))
      go None e =
          absurd (true≢false
          (sym (both_and (ltb 0 (g.p i b)) (ltb (equal_share_kw g left b i) 1) (lt-ltb 0 (g.p i b) p) (lt-ltb (equal_share_kw g left b i) 1 l))
          ∙ first_none g.rows (stopping g left b) (sym e) i h))
      go (Some r) e = (r, e)

  pub unloaded_stop : ((i : ℕ) → i < g.rows → g.p i b ≡ 0) → stop_row g left b ≡ None
  unfolding stop_row
  unloaded_stop h = first_nothing g.rows (stopping g left b) (λ i hi. rw (h i hi, le-ltb 0 0 (omega arith)) refl)

-- ---- the row

-- each border that some row loads has a row that stopped it: the first with p > 0 whose equal share at the end is under one kW for it
pub stop_row_lem : {g : Grid} {s t : State} {k : ℕ} → Rounds g s k t → (i b : ℕ) → i < g.rows → b < g.borders → 0 < g.p i b → (r : ℕ) × (Some r ≡ stop_row g t.margins b) × Stops g t.margins b r
stop_row_lem {g} {s} {t} w i b hi hb hp =
    let u = stopped w i b hi hb hp in
    let f = stop_row_found g t.margins b u.i u.below u.counts (omega (arith, u.is)) in
    (f.0, f.1, stop_row_is g t.margins b f.1)

-- no other row stopped the border
pub stop_row_once : {g : Grid} {left : List ℕ} {b r r' : ℕ} → Stops g left b r → Stops g left b r' → r' ≡ r
stop_row_once {g} {left} {b} = stops_once g left b

-- ---- the round

-- no other round is the last that raised the border (`last-round` in crate rounds)
pub last_round_once : {g : Grid} {s : State} {b k l l' : ℕ} → LastRaise g s b k l → LastRaise g s b k l' → l' ≡ l
last_round_once {g} {s} {b} = last_once g s b

-- the border rose in each round up to it
pub raised_each : {g : Grid} {s : State} {b k l : ℕ} → LastRaise g s b k l → (j : ℕ) → 0 < j → j ≤ l → 0 < raise_in g s b j
raised_each {g} {s} {b} {k} {l} u j z h = raised_before g s b l (u.raised (le_trans z h)) j z h

-- ---- a border that no row loads: not marked (02, E13)

pub never_raised : (g : Grid) (s : State) (b : ℕ) → ((i : ℕ) → i < g.rows → g.p i b ≡ 0) → last_round g s b ≡ 0
unfolding last_round
never_raised g s b h = unloaded_last g s b h (extract g s).rounds

pub never_stopped : (g : Grid) (left : List ℕ) (b : ℕ) → ((i : ℕ) → i < g.rows → g.p i b ≡ 0) → stop_row g left b ≡ None
never_stopped = unloaded_stop
