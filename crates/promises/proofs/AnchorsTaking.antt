-- A small hour in both profiles, with marks, and with its list not shortened; results and records that intraday demand 3 rejects, and tables of p that E9 rejects.
-- Nobody cites it: it refuses a definition or a statement that slipped, by the number that comes out.
use Rattle.std.specs.Prelude.{Err, Ok}
use mathlib.Core.Path.{◌≡◌, refl, sym, ap, subst}
use mathlib.Core.Bool.{Bool, true, false, false≢true}
use mathlib.Core.List.{List, [], ◌∷◌}
use Prim.Native.Nat.{ℕ, zero, suc, ◌+◌, ◌*◌, ◌-◌, ◌/◌, ◌≤◌, ◌<◌}
use native.Mathlib.Nat.{div-mul-le_self}
use native.Mathlib.Omega.{arith}
use lib.Dec.{eqb, lit≤, lit<}
use lib.IntN.{ℤ, pos, nat_abs}
use lib.Signed.{lt_z_yes, lt_z_no, clash_ℤ}
use Rattle.numbers.specs.Below.{at, if_zero, sum, count, largest, lesser, least, or_zero, table, first_from, given}
use Rattle.numbers.specs.Ints.{minus, max_ℤ, min_ℤ, positive_part, same_ℤ, sum_ℤ}
use Rattle.refusals.specs.Refusals.{Judged, then, unless, refuse_at, refuse_first, bad_mark, below_zero}
use Rattle.types.specs.Ranges.{hubs_of, border_of, share_of, row_of, worth, default_of}
use Rattle.marks.specs.Marks.{marked_by, faulty_mark, judge_marks}
use Rattle.tablerules.specs.Table.{Table, factors_at, stretch}
use Rattle.rounds.specs.Rounds.{State, Outcome, sharers, raise, alone, raises, load, lowered, risen, apply, next, raised, counted, run, extract, most_sharers, bits_to, bits, alone_bits}
use Rattle.marginrules.specs.Margin.{flow_of, grains, f0core_of, fuaf_of, base_of, amr_of, signed_factor, p_of, lta_kw, s_of, lta_margin_of, ram_of, ram_at}
use Rattle.staterules.specs.States.{highest, lowest, spread_of, shifted, below, state_of, kept}
use Rattle.staterules.specs.Standings.{standings_of}
use Rattle.setup.specs.Setup.{grid_by, begin_by, judge_by}
use Rattle.extractrules.specs.Start.{every, setup_with}
use Rattle.extractrules.specs.Extraction.{Result, result_marked, left_of, n_of, l_of}
use Rattle.promises.specs.ByBorder.{laid_out, ByBorder}
use Rattle.promises.specs.Demand.{load_of, start_margin, start_kw, ResultDemand3}
use Rattle.promises.specs.DemandLeft.{LeftDemand3}
use Rattle.promises.specs.Stopped.{StoppedBy}
use Rattle.promises.specs.Taking.{result_in, outcome_in, outcome_taking, unshortened}

-- border 0 to 1 has 1 MW, the way back none. Row 0 loads the first and row 1 the second; row 2 is of row 0's class, with a higher RAM, and row 3 is under 5%. `iva` is
-- row 0's IVA
abbrev small : (iva : ℕ) → Table
small iva =
    record {
      header = record { zones = 2; borders = 2; rows = 4; share = minus 1; intraday = 0 };
      nets = pos 0 ∷ pos 0 ∷ [];
      allocated = [];
      borders = (pos 0 ∷ pos 1 ∷ pos 1 ∷ minus 1 ∷ minus 1 ∷ []) ∷ (pos 1 ∷ pos 0 ∷ pos 0 ∷ minus 1 ∷ minus 1 ∷ []) ∷ [];
      rows =
          (pos 2400 ∷ pos 0 ∷ pos 0 ∷ pos 0 ∷ pos 0 ∷ pos 0 ∷ pos iva ∷ [])
          ∷ (pos 300 ∷ pos 0 ∷ pos 0 ∷ pos 0 ∷ pos 0 ∷ pos 0 ∷ pos 0 ∷ [])
          ∷ (pos 5000 ∷ pos 0 ∷ pos 0 ∷ pos 0 ∷ pos 0 ∷ pos 0 ∷ pos 0 ∷ [])
          ∷ (pos 1 ∷ pos 0 ∷ pos 0 ∷ pos 0 ∷ pos 0 ∷ pos 0 ∷ pos 0 ∷ [])
          ∷ [];
      factors = pos 20000 ∷ pos 0 ∷ pos 0 ∷ pos 30000 ∷ pos 25000 ∷ pos 5000 ∷ pos 4999 ∷ pos 0 ∷ [];
    }

-- 3 MW flow from zone 1 to zone 0: they relieve row 0, and take row 1 60,000,000 grains over its RAM
abbrev taken : List ℤ
taken = minus 3000 ∷ pos 3000 ∷ []

-- the hour as an intraday table, with these positions allocated
abbrev late : (iva : ℕ) → Table
late iva = let t = small iva in record { header = record { zones = 2; borders = 2; rows = 4; share = minus 1; intraday = 1 }; nets = t.nets; allocated = taken; borders = t.borders; rows = t.rows; factors = t.factors }

-- the records that a call could have left: the two ATCs, and row 0's margin
abbrev atcs_left : (mw mw' : ℕ) → List (List ℤ)
atcs_left mw mw' = (pos mw ∷ pos 1 ∷ pos 0 ∷ []) ∷ (pos mw' ∷ pos 0 ∷ pos 1 ∷ []) ∷ []

abbrev lefts_left : (margin : ℕ) → List (List ℤ)
lefts_left margin =
    (pos 0 ∷ pos 240000000 ∷ pos margin ∷ []) ∷ (pos 0 ∷ pos 30000000 ∷ pos 0 ∷ []) ∷ (pos 2 ∷ pos 500000000 ∷ minus 1 ∷ []) ∷ (pos 1 ∷ pos 4999000 ∷ minus 1 ∷ []) ∷ []

-- the second border alone
abbrev second : (b : ℕ) → Bool
second b = eqb b 1

-- the first border alone
abbrev first : (b : ℕ) → Bool
first b = eqb b 0

abbrev end : (rounds : ℕ) → (margins x : List ℕ) → Outcome
end rounds margins x = record { rounds = rounds; state = record { margins = margins; x = x } }

-- margins that let border 1 rise by one kW
abbrev one_kw : State
one_kw = record { margins = 0 ∷ 30000 ∷ 0 ∷ 0 ∷ []; x = 0 ∷ 0 ∷ [] }

-- where an outcome ends
abbrev ends : Judged Result → Judged Outcome
ends j = then j (λ r. Ok r.outcome)

-- the rows of the hour, with these rounds, margins left and exchanges
abbrev ended : (rounds : ℕ) → (margins x : List ℕ) → Result
ended rounds margins x =
    record {
      header = (small 0).header;
      rows = record { rams = pos 240000000 ∷ pos 30000000 ∷ pos 500000000 ∷ pos 4999000 ∷ []; states = 0 ∷ 0 ∷ 2 ∷ 1 ∷ [] };
      p = 20000 ∷ 0 ∷ 0 ∷ 30000 ∷ 0 ∷ 0 ∷ 0 ∷ 0 ∷ [];
      outcome = end rounds margins x;
      lasts = [];
      stops = [];
    }

both : (f g : ℕ → ℕ) → f 0 ≤ g 0 → f 1 ≤ g 1 → (b : ℕ) → b < 2 → f b ≤ g b
both f g x y zero h = x
both f g x y (suc zero) h = y
both f g x y (suc (suc b)) h = absurd (omega arith)

-- an exchange whose whole MW are so many is at least that
at_least : (kw mw : ℕ) → pos mw ≡ pos (kw / 1000) → mw * 1000 ≤ kw
at_least kw mw e = subst (λ (v : ℕ). v * 1000 ≤ kw) (sym (ap nat_abs e)) (div-mul-le_self kw 1000)

pub record Anchors : Type 0 where
  -- day-ahead: borders start from 1,000 kW and 0, and border 0 takes what S leaves of row 0's RAM
  pub day : ends (outcome_taking kept true [] (small 0)) ≡ Ok (end 1 (0 ∷ 0 ∷ 0 ∷ 0 ∷ []) (12000 ∷ 1000 ∷ []))
  -- day-ahead, not shortened: row 2 takes part and changes nothing, row 3 does not
  pub day_long : ends (outcome_taking unshortened true [] (small 0)) ≡ Ok (end 1 (0 ∷ 0 ∷ 260000000 ∷ 0 ∷ []) (12000 ∷ 1000 ∷ []))
  -- day-ahead, with the second border marked: the first stays at its LTA; and with a mark beyond the borders
  pub day_marked : ends (outcome_taking kept false (1 ∷ []) (small 0)) ≡ Ok (end 1 (220000000 ∷ 0 ∷ 0 ∷ 0 ∷ []) (1000 ∷ 1000 ∷ []))
  pub day_beyond : ends (outcome_taking unshortened false (2 ∷ []) (small 0)) ≡ Err (bad_mark 1)
  -- day-ahead, with IVA on row 0: RAM - S is below 0
  pub day_seven : ends (outcome_taking kept true [] (small 2300)) ≡ Err (below_zero 0)
  -- intraday: from 0 kW, RAM and 60,000,000 grains more on row 0; row 1's remainder is negative and counts as 0
  pub flow : flow_of (factors_at (small 0) 0) taken ≡ minus 60000000
  pub left : ends (outcome_taking kept true [] (late 0)) ≡ Ok (end 1 (0 ∷ 0 ∷ 0 ∷ 0 ∷ []) (15000 ∷ 0 ∷ []))
  pub left_long : ends (outcome_taking unshortened true [] (late 0)) ≡ Ok (end 1 (0 ∷ 0 ∷ 260000000 ∷ 0 ∷ []) (15000 ∷ 0 ∷ []))
  pub left_marked : ends (outcome_taking kept false (1 ∷ []) (late 0)) ≡ Ok (end 0 (300000000 ∷ 0 ∷ 0 ∷ 0 ∷ []) (0 ∷ 0 ∷ []))
  -- intraday, with IVA on row 0: S is not taken off, and 7 isn't given
  pub left_iva : ends (outcome_taking kept true [] (late 2300)) ≡ Ok (end 1 (0 ∷ 0 ∷ 0 ∷ 0 ∷ []) (3500 ∷ 0 ∷ []))
  -- where demand 3 has margins and borders start, in both profiles
  pub starts : start_margin (small 0) 0 ≡ pos 220000000
  pub starts_late : start_margin (late 0) 0 ≡ pos 300000000
  pub starts_at_0 : start_margin (late 0) 1 ≡ pos 0
  pub from_lta : start_kw (small 0) 0 ≡ 1000
  pub from_0 : start_kw (late 0) 0 ≡ 0
  -- 16,000 kW on border 0 bring row 0 over its RAM; 1 kW on border 1 loads row 1, which has nothing left
  pub beyond : ResultDemand3 (late 0) every (ended 1 (0 ∷ 0 ∷ 0 ∷ 0 ∷ []) (16000 ∷ 0 ∷ [])) → ⊥
  pub idle : ResultDemand3 (late 0) every (ended 1 (0 ∷ 0 ∷ 0 ∷ 0 ∷ []) (15000 ∷ 1 ∷ [])) → ⊥
  -- border 0 is not marked and rose
  pub stayed : ResultDemand3 (late 0) second (ended 1 (0 ∷ 0 ∷ 0 ∷ 0 ∷ []) (15000 ∷ 0 ∷ [])) → ⊥
  -- row 0 keeps a grain more than the raises left it
  pub lost : ResultDemand3 (late 0) every (ended 1 (1 ∷ 0 ∷ 0 ∷ 0 ∷ []) (15000 ∷ 0 ∷ [])) → ⊥
  -- more rounds than 2 x 1 x 14, and of border 1 alone, which could take nothing, than 0; more than 6,272; ended before the last raise
  pub many : ResultDemand3 (late 0) every (ended 29 (0 ∷ 0 ∷ 0 ∷ 0 ∷ []) (15000 ∷ 0 ∷ [])) → ⊥
  pub many_marked : ResultDemand3 (late 0) second (ended 1 (300000000 ∷ 0 ∷ 0 ∷ 0 ∷ []) (0 ∷ 0 ∷ [])) → ⊥
  pub most : ResultDemand3 (late 0) every (ended 6273 (0 ∷ 0 ∷ 0 ∷ 0 ∷ []) (15000 ∷ 0 ∷ [])) → ⊥
  pub early : ResultDemand3 (late 0) every (ended 0 (300000000 ∷ 0 ∷ 0 ∷ 0 ∷ []) (0 ∷ 0 ∷ [])) → ⊥
  -- intraday demand 3 with one border marked
  pub beyond_marked : ResultDemand3 (late 0) first (ended 1 (0 ∷ 0 ∷ 0 ∷ 0 ∷ []) (16000 ∷ 0 ∷ [])) → ⊥
  pub idle_marked : ResultDemand3 (late 0) second (ended 0 (300000000 ∷ 0 ∷ 0 ∷ 0 ∷ []) (0 ∷ 1 ∷ [])) → ⊥
  pub lost_marked : ResultDemand3 (late 0) first (ended 1 (1 ∷ 0 ∷ 0 ∷ 0 ∷ []) (15000 ∷ 0 ∷ [])) → ⊥
  pub most_marked : ResultDemand3 (late 0) first (ended 6273 (0 ∷ 0 ∷ 0 ∷ 0 ∷ []) (15000 ∷ 0 ∷ [])) → ⊥
  pub early_marked : ResultDemand3 (late 0) first (ended 0 (300000000 ∷ 0 ∷ 0 ∷ 0 ∷ []) (0 ∷ 0 ∷ [])) → ⊥
  -- intraday demand 3 of records that a call could have left
  pub left_beyond : LeftDemand3 (late 0) every 1 (atcs_left 16 0) (lefts_left 0) → ⊥
  pub left_idle : LeftDemand3 (late 0) every 1 (atcs_left 15 1) (lefts_left 0) → ⊥
  pub left_stayed : LeftDemand3 (late 0) second 0 (atcs_left 15 0) (lefts_left 0) → ⊥
  pub left_lost : LeftDemand3 (late 0) every 1 (atcs_left 15 0) (lefts_left 1) → ⊥
  pub left_many : LeftDemand3 (late 0) every 29 (atcs_left 15 0) (lefts_left 0) → ⊥
  pub left_most : LeftDemand3 (late 0) every 6273 (atcs_left 15 0) (lefts_left 0) → ⊥
  pub left_early : LeftDemand3 (late 0) every 0 (atcs_left 0 0) (lefts_left 300000000) → ⊥
  -- intraday demand 3 of records that a call could have left, with one border marked
  pub left_beyond_marked : LeftDemand3 (late 0) first 1 (atcs_left 16 0) (lefts_left 0) → ⊥
  pub left_idle_marked : LeftDemand3 (late 0) second 0 (atcs_left 0 1) (lefts_left 300000000) → ⊥
  pub left_lost_marked : LeftDemand3 (late 0) first 1 (atcs_left 15 0) (lefts_left 1) → ⊥
  pub left_many_marked : LeftDemand3 (late 0) second 1 (atcs_left 0 0) (lefts_left 300000000) → ⊥
  pub left_most_marked : LeftDemand3 (late 0) first 6273 (atcs_left 15 0) (lefts_left 0) → ⊥
  pub left_early_marked : LeftDemand3 (late 0) first 0 (atcs_left 0 0) (lefts_left 300000000) → ⊥
  -- E7: row 2 loads border 0 and has nothing left, but is not kept
  pub not_kept_row : StoppedBy (small 0) every (ended 1 (0 ∷ 0 ∷ 0 ∷ 0 ∷ []) (12000 ∷ 1000 ∷ [])) 0 2 → ⊥
  -- E9: the rounds take the table's factors of the marked borders
  pub laid : (laid_out (small 0) every (20000 ∷ 0 ∷ 0 ∷ 30000 ∷ [])).p 1 1 ≡ 30000
  pub laid_unmarked : (laid_out (small 0) second (20000 ∷ 0 ∷ 0 ∷ 30000 ∷ [])).p 0 0 ≡ 0
  -- a factor at row 2, which is not kept; another factor at a kept row; no factor at a border that is not marked
  pub not_kept : ByBorder (small 0) every (20000 ∷ 0 ∷ 0 ∷ 30000 ∷ 20000 ∷ 0 ∷ 0 ∷ 0 ∷ []) → ⊥
  pub other : ByBorder (small 0) every (20000 ∷ 0 ∷ 0 ∷ 30001 ∷ 0 ∷ 0 ∷ 0 ∷ 0 ∷ []) → ⊥
  pub left_out_lem : ByBorder (small 0) second (0 ∷ 0 ∷ 0 ∷ 30000 ∷ 0 ∷ 0 ∷ 0 ∷ 0 ∷ []) → ⊥
  -- E9: with another factor a raise, a round and the rounds are other; and where they end, 11,999 kW for 12,000
  pub other_raise : ByBorder (small 0) every (20000 ∷ 0 ∷ 0 ∷ 30001 ∷ 0 ∷ 0 ∷ 0 ∷ 0 ∷ []) → ⊥
  pub other_round : ByBorder (small 0) every (20000 ∷ 0 ∷ 0 ∷ 30001 ∷ 0 ∷ 0 ∷ 0 ∷ 0 ∷ []) → ⊥
  pub other_rounds : ByBorder (small 0) every (20000 ∷ 0 ∷ 0 ∷ 30001 ∷ 0 ∷ 0 ∷ 0 ∷ 0 ∷ []) → ⊥
  pub other_end : ByBorder (small 0) every (20001 ∷ 0 ∷ 0 ∷ 30000 ∷ 0 ∷ 0 ∷ 0 ∷ 0 ∷ []) → ⊥

pub anchors : Anchors
unfolding if_zero sum count largest lesser least or_zero table first_from given max_ℤ min_ℤ positive_part same_ℤ sum_ℤ hubs_of border_of share_of row_of worth default_of then unless refuse_at refuse_first stretch marked_by faulty_mark judge_marks sharers raise alone raises load lowered risen apply next raised counted run extract most_sharers bits_to bits alone_bits grains f0core_of fuaf_of base_of amr_of signed_factor p_of lta_kw s_of lta_margin_of ram_of ram_at highest lowest spread_of shifted below state_of standings_of kept grid_by begin_by judge_by setup_with left_of n_of l_of load_of result_marked result_in outcome_in outcome_taking unshortened
anchors =
    record {
      day = refl;
      day_long = refl;
      day_marked = refl;
      day_beyond = refl;
      day_seven = refl;
      flow = refl;
      left = refl;
      left_long = refl;
      left_marked = refl;
      left_iva = refl;
      starts = refl;
      starts_late = refl;
      starts_at_0 = refl;
      from_lta = refl;
      from_0 = refl;
      beyond = λ d. clash_ℤ (lt_z_yes {a = pos 240000000} {b = pos 260000000} tt) (d.on_top refl (16000 ∷ 0 ∷ []) (both _ _ (lit≤ tt) (lit≤ tt)) 0 (lit< tt) refl (lt_z_no {a = pos 300000000} {b = pos 0} tt));
      idle = λ d. clash_ℤ (lt_z_yes {a = pos 0} {b = pos 30000} tt) (d.idle refl (0 ∷ 1 ∷ []) (both _ _ (lit≤ tt) (lit≤ tt)) 1 (lit< tt) refl (lt_z_yes {a = minus 60000000} {b = pos 0} tt));
      stayed = λ d. let e : ◌≡◌ {A = ℕ} 15000 0 = d.stayed 0 (lit< tt) refl in omega arith;
      lost = λ d. let e : ◌≡◌ {A = ℕ} 300000000 300000001 = ap nat_abs (d.lost 0 (lit< tt) refl) in omega arith;
      many = λ d. let h : 29 ≤ 28 = d.few in omega arith;
      many_marked = λ d. let h : 1 ≤ 0 = d.few in omega arith;
      most = λ d. let h : 6273 ≤ 6272 = d.most in omega arith;
      early = λ d. let e : ◌≡◌ {A = ℕ} 15000 0 = d.still 0 (lit< tt) in omega arith;
      beyond_marked = λ d. clash_ℤ (lt_z_yes {a = pos 240000000} {b = pos 260000000} tt) (d.on_top refl (16000 ∷ 0 ∷ []) (both _ _ (lit≤ tt) (lit≤ tt)) 0 (lit< tt) refl (lt_z_no {a = pos 300000000} {b = pos 0} tt));
      idle_marked = λ d. clash_ℤ (lt_z_yes {a = pos 0} {b = pos 30000} tt) (d.idle refl (0 ∷ 1 ∷ []) (both _ _ (lit≤ tt) (lit≤ tt)) 1 (lit< tt) refl (lt_z_yes {a = minus 60000000} {b = pos 0} tt));
      lost_marked = λ d. let e : ◌≡◌ {A = ℕ} 300000000 300000001 = ap nat_abs (d.lost 0 (lit< tt) refl) in omega arith;
      most_marked = λ d. let h : 6273 ≤ 6272 = d.most in omega arith;
      early_marked = λ d. let e : ◌≡◌ {A = ℕ} 15000 0 = d.still 0 (lit< tt) in omega arith;
      left_beyond = λ d.
          clash_ℤ (lt_z_yes {a = pos 240000000} {b = pos 260000000} tt)
          (d.demand.on_top refl (16000 ∷ 0 ∷ []) (both _ (at d.kw) (at_least (at d.kw 0) 16 (d.floored 0 (lit< tt))) (omega arith)) 0 (lit< tt) refl (lt_z_no {a = pos 300000000} {b = pos 0} tt));
      left_idle = λ d.
          clash_ℤ (lt_z_yes {a = pos 0} {b = pos 30000000} tt)
          (d.demand.idle refl (0 ∷ 1000 ∷ []) (both _ (at d.kw) (omega arith) (at_least (at d.kw 1) 1 (d.floored 1 (lit< tt)))) 1 (lit< tt) refl (lt_z_yes {a = minus 60000000} {b = pos 0} tt));
      left_stayed = λ d. let e : at d.kw 0 ≡ 0 = d.demand.stayed 0 (lit< tt) refl in omega (arith, at_least (at d.kw 0) 15 (d.floored 0 (lit< tt)));
      left_lost = λ d. let e : 300000000 ≡ 1 + (0 + 20000 * (at d.kw 0 - 0) + 0 * (at d.kw 1 - 0)) = ap nat_abs (d.demand.lost 0 (lit< tt) refl) in omega arith;
      left_many = λ d. let h : 29 ≤ 28 = d.demand.few in omega arith;
      left_most = λ d. let h : 6273 ≤ 6272 = d.demand.most in omega arith;
      left_early = λ d. let e : ◌≡◌ {A = ℕ} 15000 0 = d.demand.still 0 (lit< tt) in omega arith;
      left_beyond_marked = λ d.
          clash_ℤ (lt_z_yes {a = pos 240000000} {b = pos 260000000} tt)
          (d.demand.on_top refl (16000 ∷ 0 ∷ []) (both _ (at d.kw) (at_least (at d.kw 0) 16 (d.floored 0 (lit< tt))) (omega arith)) 0 (lit< tt) refl (lt_z_no {a = pos 300000000} {b = pos 0} tt));
      left_idle_marked = λ d.
          clash_ℤ (lt_z_yes {a = pos 0} {b = pos 30000000} tt)
          (d.demand.idle refl (0 ∷ 1000 ∷ []) (both _ (at d.kw) (omega arith) (at_least (at d.kw 1) 1 (d.floored 1 (lit< tt)))) 1 (lit< tt) refl (lt_z_yes {a = minus 60000000} {b = pos 0} tt));
      left_lost_marked = λ d. let e : 300000000 ≡ 1 + (0 + 20000 * (at d.kw 0 - 0) + 0 * (at d.kw 1 - 0)) = ap nat_abs (d.demand.lost 0 (lit< tt) refl) in omega arith;
      left_many_marked = λ d. let h : 1 ≤ 0 = d.demand.few in omega arith;
      left_most_marked = λ d. let h : 6273 ≤ 6272 = d.demand.most in omega arith;
      left_early_marked = λ d. let e : ◌≡◌ {A = ℕ} 15000 0 = d.demand.still 0 (lit< tt) in omega arith;
      not_kept_row = λ u. false≢true u.takes;
      laid = refl;
      laid_unmarked = refl;
      not_kept = λ d. let e : ◌≡◌ {A = ℕ} 20000 0 = d.same 2 0 (lit< tt) (lit< tt) in omega arith;
      other = λ d. let e : ◌≡◌ {A = ℕ} 30001 30000 = d.same 1 1 (lit< tt) (lit< tt) in omega arith;
      left_out_lem = λ d. let e : ◌≡◌ {A = ℕ} 0 20000 = d.same 0 0 (lit< tt) (lit< tt) in omega arith;
      other_raise = λ d. let e : ◌≡◌ {A = ℕ} 0 1 = d.raises (0 ∷ 30000 ∷ 0 ∷ 0 ∷ []) 1 (lit< tt) in omega arith;
      other_round = λ d. let e : ◌≡◌ {A = ℕ} 0 1 = ap (λ (s : State). at s.x 1) (d.round one_kw) in omega arith;
      other_rounds = λ d. let e : ◌≡◌ {A = ℕ} 0 1 = ap (λ (o : Outcome). o.rounds) (d.rounds one_kw) in omega arith;
      other_end = λ d. let e : ◌≡◌ {A = ℕ} 11999 12000 = ap (λ (o : Outcome). at o.state.x 0) d.ends in omega arith;
    }
