-- The laws behind those figures of 01 that stand for every table (`Figures.antt` lists them). No contract cites this file.
use Rattle.std.specs.Prelude.{Ok}
use mathlib.Core.Path.{◌≡◌, refl, sym, ap, ap₂, subst, ◌∙◌}
use mathlib.Core.Bool.{Bool, true, false, cond, ◌&&◌, true≢false, and-false}
use mathlib.Core.List.{List, []}
use Prim.Native.Nat.{ℕ, zero, suc, ◌*◌, ◌/◌, ◌≤◌, ◌<◌}
use native.Mathlib.Nat.{mul-div_cancel, not-suc-le-zero, lt_trans}
use native.Mathlib.Omega.{arith}
use borrow.Author.Tests.{lt-ltb}
use lib.IntN.{ℤ, pos}
use lib.ListN.{get_or}
use lib.Signed.{≤ℤ_refl}
use Rattle.numbers.specs.Below.{at, if_zero, lesser, least, or_zero, first_from, given, some_below}
use Rattle.numbers.specs.Ints.{same_ℤ}
use Rattle.numbers.proofs.IntLaws.{le_lt_z, same_self}
use Rattle.numbers.proofs.BelowLaws.{table_get}
use Rattle.numbers.proofs.TestLaws.{some_false}
use Rattle.types.specs.Ranges.{at_ℤ, row_of, default_of}
use Rattle.rounds.specs.Rounds.{Grid, sharers, raise}
use Rattle.rounds.proofs.LeastLaws.{div_swap}
use Rattle.rounds.proofs.Rounds.{extracts}
use Rattle.theorems.proofs.Rounds as rounds
use Rattle.tablerules.specs.Table.{Table, factors_at}
use Rattle.marginrules.specs.Margin.{f0core_of, s_of, ram_of, ram_at, rams_of}
use Rattle.staterules.specs.States.{spread_of, shifted, below, state_of}
use Rattle.theorems.proofs.ShiftLaws.{shifted_self}
use Rattle.setup.specs.Setup.{grid_by}
use Rattle.extractrules.specs.Start.{every, table_grid, table_start, setup_with}
use Rattle.extractrules.specs.Extraction.{Result, result_marked, outcome_of}
use Rattle.extractrules.proofs.AcceptedLaws.{accepted}

-- ---- spread
-- no row is below itself
below_self : (rams : List ℤ) → below rams 0 0 ≡ false
unfolding below
below_self rams = rw (le_lt_z (≤ℤ_refl (at_ℤ rams 0))) (and-false (same_ℤ (at_ℤ rams 0) (at_ℤ rams 0)))

pub kept_alone : (t : Table) → t.header.rows ≡ 1 → spread_of (factors_at t 0) ≡ pos 5000 → state_of t.header t.factors (rams_of t) 0 ≡ 0
unfolding state_of first_from given
kept_alone t one e = rw (e, one, below_self)

pub not_one : (t : Table) (i : ℕ) → spread_of (factors_at t i) ≡ pos 5000 → state_of t.header t.factors (rams_of t) i ≡ 1 → ⊥
unfolding state_of
not_one t i e s = go (some_below t.header.rows (λ j. below (rams_of t) j i && shifted (factors_at t j) (factors_at t i))) (rw e at s)
  where
    go : (found : Bool) → ◌≡◌ {A = ℕ} (cond found 2 0) 1 → ⊥
    go true h = omega arith
    go false h = omega arith

pub under_5000 : (t : Table) (i : ℕ) → spread_of (factors_at t i) ≡ pos 4999 → state_of t.header t.factors (rams_of t) i ≡ 1
unfolding state_of
under_5000 t i e = rw e

-- ---- two equal rows
below_tie : (rams : List ℤ) (i j : ℕ) → at_ℤ rams i ≡ at_ℤ rams j → i < j → below rams i j ≡ true
unfolding below
below_tie rams i j e h = rw (e, le_lt_z (≤ℤ_refl (at_ℤ rams j)), same_self (at_ℤ rams j), lt-ltb i j h)

some_true : (n : ℕ) (test : ℕ → Bool) (i : ℕ) → i < n → test i ≡ true → some_below n test ≡ true
some_true n test i h e = go (some_below n test) refl
  where
    go : (found : Bool) → some_below n test ≡ found → found ≡ true
    go true q = refl
    go false q = absurd (true≢false (sym e ∙ some_false n test q i h))

module _ (t : Table) (i j : ℕ) (before : i < j) (h : j < t.header.rows) (values : get_or t.rows i [] ≡ get_or t.rows j []) (factors : factors_at t i ≡ factors_at t j) where
  ram-same : ram_at t i ≡ ram_at t j
  unfolding ram_at
  ram-same = ap₂ (λ (c fs : List ℤ). ram_of (default_of t.header) (row_of c) (f0core_of (row_of c) fs t.nets) (s_of fs t.borders)) values factors

  ram-tie : at_ℤ (rams_of t) i ≡ at_ℤ (rams_of t) j
  ram-tie = table_get t.header.rows (ram_at t) i (pos 0) (lt_trans before h) ∙ ram-same ∙ sym (table_get t.header.rows (ram_at t) j (pos 0) h)

  pub second_state : spread_of (factors_at t j) ≡ pos 5000 → state_of t.header t.factors (rams_of t) j ≡ 2
  unfolding state_of
  second_state e = rw e (ap (λ (b : Bool). cond b 2 0) (some_true t.header.rows (λ k. below (rams_of t) k j && shifted (factors_at t k) (factors_at t j)) i (lt_trans before h)
      (rw (below_tie (rams_of t) i j ram-tie before, factors) (shifted_self (factors_at t j)))))

-- ---- one border
pub one_border_alone : (t : Table) (r : Result) → outcome_of t ≡ Ok r → t.header.borders ≡ 1 → r.outcome.rounds ≤ 1
unfolding outcome_of result_marked grid_by setup_with
one_border_alone t r e one =
    subst (λ (r : Result). r.outcome.rounds ≤ 1) (accepted every t r e).is
    (rounds.one_border (extracts (table_grid t) (table_start t)) one)

-- ---- a raise
pub three_by_two : (g : Grid) (margins : List ℕ) (b p : ℕ) → g.rows ≡ 1 → sharers g 0 ≡ 2 → g.p 0 b ≡ p → 0 < p → at margins 0 ≡ 3 * p → raise g margins b ≡ 1
unfolding raise least lesser or_zero if_zero sharers
three_by_two g margins b zero rows n ep zp m = absurd (not-suc-le-zero zp)
three_by_two g margins b (suc p) rows n ep zp m = rw (rows, ep, m, n) (div_swap (3 * suc p) 2 (suc p) ∙ ap (λ (v : ℕ). v / 2) (mul-div_cancel 3 zp))
