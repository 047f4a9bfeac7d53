-- No judged table has more than 1,852 rounds, or more than 1,910 where it has T lines, whatever is marked; 01's demand 3 has 6,144 and 6,272 there. By the sharper bound of
-- crate tightrules, which is never above these, from the largest margin that a row can start with.
use Rattle.std.specs.Prelude.{Ok}
use mathlib.Core.Path.{◌≡◌, refl, ap, subst}
use mathlib.Core.Bool.{Bool, true, false, cond, ◌&&◌}
use mathlib.Core.List.{List}
use Prim.Native.Nat.{ℕ, ◌+◌, ◌*◌, ◌/◌, ◌≤◌, ◌<◌}
use native.Mathlib.Nat.{not-suc-le-zero, le_trans, mul-add, mul-le-mul_right, div-le_self, div-le_of_le-mul}
use native.Mathlib.Omega.{arith}
use lib.IntN.{ℤ, pos}
use Rattle.numbers.specs.Below.{at}
use Rattle.numbers.specs.Ints.{positive_part}
use Rattle.numbers.proofs.BelowLaws.{table_get}
use Rattle.limits.specs.Limits.{borders_most}
use Rattle.types.specs.Ranges.{at_ℤ, is_intraday}
use Rattle.types.proofs.RangeLaws.{header_in_lem}
use Rattle.tablerules.specs.Table.{Table, border_at, factors_at}
use Rattle.tablerules.specs.Good.{Good}
use Rattle.tightrules.specs.Tight.{equal_share_up, cut, steps_within, steps}
use Rattle.tightrules.specs.Measure.{bound_by}
use Rattle.marginrules.specs.Margin.{p_of, margin_of, starts_of}
use Rattle.staterules.specs.Standings.{standings_of}
use Rattle.setup.specs.Setup.{grid_by, begin_by}
use Rattle.staterules.specs.States.{kept}
use Rattle.extractrules.specs.Start.{grid_marked, table_start, setup_with}
use Rattle.extractrules.specs.Extraction.{Result, result_marked, outcome_marked}
use Rattle.extractrules.proofs.AcceptedLaws.{part_le_whole, accepted}
use Rattle.boundrules.specs.Bound.{bound_of}
use Rattle.worst.proofs.TableRounds.{table_sharp, table_sharper}
use Rattle.worst.specs.Worst.{start_top, lta_top, late_top, rounds_worst, Known}
use Rattle.worst.proofs.FewRounds.{reach_under, tight_within}
use Rattle.worst.proofs.TopLaws.{day_top, late_top_lem}

module _ (marked : ℕ → Bool) {t : Table} (good : Good t) where
  -- a row starts with no more than its margin
  start_under : (i : ℕ) → i < t.header.rows → at (table_start t).margins i ≤ positive_part (margin_of t i)
  unfolding begin_by setup_with
  start_under i h =
      let m : List ℤ = starts_of t in
      omega (
        arith,
        table_get t.header.rows (λ i. cond (kept (standings_of t).states i) (positive_part (at_ℤ m i)) 0) i 0 h,
        part_le_whole (kept (standings_of t).states i) (positive_part (at_ℤ m i)),
        ap positive_part (table_get t.header.rows (margin_of t) i (pos 0) h),
      )

  borders-few : t.header.borders ≤ borders_most
  borders-few = (header_in_lem t.header good.exact.header).borders_most_lem

  -- without T lines
  day : is_intraday t.header ≡ false → (bound_of marked t).sharp ≤ rounds_worst false
  unfolding bound_by grid_by setup_with steps steps_within cut equal_share_up
  day e =
      tight_within (grid_marked marked t) (table_start t).margins borders_most start_top borders-few
      (λ b hb.
      reach_under (grid_marked marked t) (table_start t).margins b start_top
      (λ i h z. le_trans (div-le_self (at (table_start t).margins i) ((grid_marked marked t).p i b)) (le_trans (start_under i h) (rw e (day_top good i h)))))

  -- with T lines: a factor above 0 is the border's own
  own-factor : (k : Bool) (p : ℕ) → 0 < cond k p 0 → cond k p 0 ≡ p
  own-factor true p z = refl
  own-factor false p z = absurd (not-suc-le-zero z)

  late-quotient : is_intraday t.header ≡ true → (b : ℕ) → b < t.header.borders → (i : ℕ) → i < t.header.rows → 0 < (grid_marked marked t).p i b → at (table_start t).margins i / (grid_marked marked t).p i b ≤ late_top + lta_top
  unfolding grid_by setup_with
  late-quotient late b hb i h z =
      let p : ℕ = (grid_marked marked t).p i b in
      let e : p ≡ p_of (factors_at t i) (border_at t b) = own-factor (marked b && kept (standings_of t).states i) (p_of (factors_at t i) (border_at t b)) z in
      let u : positive_part (margin_of t i) ≤ late_top + p_of (factors_at t i) (border_at t b) * lta_top = rw late (late_top_lem good i h b hb) in
      div-le_of_le-mul p (omega (arith, start_under i h, u, e, mul-add p late_top lta_top, mul-le-mul_right late_top z))

  late : is_intraday t.header ≡ true → (bound_of marked t).sharp ≤ rounds_worst true
  unfolding bound_by grid_by setup_with steps steps_within cut equal_share_up
  late e =
      tight_within (grid_marked marked t) (table_start t).margins borders_most (late_top + lta_top) borders-few
      (λ b hb. reach_under (grid_marked marked t) (table_start t).margins b (late_top + lta_top) (late-quotient e b hb))

  -- the bound that `bound` answers
  pub worst_bound : (bound_of marked t).sharp ≤ rounds_worst (is_intraday t.header)
  worst_bound = go (is_intraday t.header) refl
    where
      go : (profile : Bool) → is_intraday t.header ≡ profile → (bound_of marked t).sharp ≤ rounds_worst profile
      go true e = late e
      go false e = day e

  -- the rounds of the result
  pub worst_rounds : (result_marked marked t).outcome.rounds ≤ rounds_worst (is_intraday t.header)
  worst_rounds = le_trans (table_sharp marked t) worst_bound

  pub table_known : Known marked t (result_marked marked t).outcome.rounds
  table_known = record { sharp = table_sharp marked t; sharper = table_sharper marked t; worst = worst_bound; most = worst_rounds }

  pub accepted_known : (r : Result) → outcome_marked marked t ≡ Ok r → Known marked t r.outcome.rounds
  accepted_known r e = subst (λ (v : Result). Known marked t v.outcome.rounds) (accepted marked t r e).is table_known
