-- A small hour, its result, and results and records that demand 3 and E7 reject, one at least for each of their sentences, with every border marked and with one; and
-- what refusal 7 is about. Nobody cites them: they refuse a statement that slipped, by the number that comes out.
use Rattle.std.specs.Prelude.{Err, None, Ok, Option, Some}
use mathlib.Core.Path.{◌≡◌, refl, sym, ap, subst}
use mathlib.Core.Bool.{Bool, false≢true}
use mathlib.Core.List.{List, [], ◌∷◌, ◌++◌}
use Prim.Native.Nat.{ℕ, zero, suc, ◌+◌, ◌*◌, ◌-◌, ◌/◌, ◌≤◌, ◌<◌}
use native.Mathlib.Nat.{div-mul-le_self}
use native.Mathlib.Omega.{arith}
use lib.Dec.{eqb, lit≤, lit<}
use lib.IntN.{ℤ, pos, nat_abs}
use lib.ListN.{take}
use lib.Signed.{lt_z_yes, clash_ℤ}
use Rattle.numbers.specs.Below.{at, if_zero, sum, count, largest, lesser, least, or_zero, table, first_from, given}
use Rattle.numbers.specs.Ints.{minus, max_ℤ, min_ℤ, positive_part, same_ℤ, sum_ℤ}
use Rattle.refusals.specs.Refusals.{then, unless, refuse_at, refuse_first, below_zero, unlimited}
use Rattle.types.specs.Ranges.{hubs_of, border_of, share_of, row_of, worth, default_of}
use Rattle.tablerules.specs.Table.{Table, row_at, stretch}
use Rattle.rounds.specs.Rounds.{sharers, raise, alone, raises, load, lowered, risen, apply, next, raised, counted, run, extract, most_sharers, bits_to, bits, alone_bits}
use Rattle.rounds.specs.Last.{after, raise_in, last_to, last_round}
use Rattle.rounds.specs.Stopping.{stop_row}
use Rattle.marginrules.specs.Margin.{grains, f0core_of, fuaf_of, base_of, amr_of, signed_factor, p_of, lta_kw, s_of, lta_margin_of, ram_of, ram_at}
use Rattle.staterules.specs.States.{highest, lowest, spread_of, shifted, below, state_of, kept}
use Rattle.staterules.specs.Standings.{standings_of}
use Rattle.setup.specs.Setup.{grid_by, begin_by, judge_by}
use Rattle.extractrules.specs.Start.{every, setup_with}
use Rattle.outcome.specs.Outcome.{row_or_dash}
use Rattle.extractrules.specs.Extraction.{Result, atc_of, left_of, last_of, stop_of, n_of, l_of, outcome_marked, result_marked}
use Rattle.promises.specs.Demand.{load_of, WithinAtcs, ResultDemand3}
use Rattle.promises.specs.DemandLeft.{LeftDemand3}
use Rattle.promises.specs.Seven.{NotSeven, NoReductions}
use Rattle.promises.specs.Stopped.{StoppedBy, BorderStopped, Unmarked, LeftStopped, LeftUnmarked}

-- border 0 has 2 MW; row 0 leaves it 400 kW more, shared with border 1, which row 1 stops at 20 kW and border 0 relieves
abbrev small : Table
small =
    record {
      header = record { zones = 3; borders = 2; rows = 2; share = minus 1; intraday = 0 };
      nets = pos 0 ∷ pos 0 ∷ pos 0 ∷ [];
      allocated = [];
      borders = (pos 0 ∷ pos 1 ∷ pos 2 ∷ minus 1 ∷ minus 1 ∷ []) ∷ (pos 0 ∷ pos 2 ∷ pos 0 ∷ minus 1 ∷ minus 1 ∷ []) ∷ [];
      rows =
          (pos 240 ∷ pos 0 ∷ pos 0 ∷ pos 0 ∷ pos 0 ∷ pos 0 ∷ pos 0 ∷ [])
          ∷ (pos 1 ∷ pos 0 ∷ pos 0 ∷ pos 0 ∷ pos 0 ∷ pos 0 ∷ pos 0 ∷ [])
          ∷ [];
      factors = pos 10000 ∷ pos 0 ∷ pos 0 ∷ pos 0 ∷ pos 5000 ∷ minus 5000 ∷ [];
    }

-- the hour with row 0 once more: the second one has state 2
abbrev doubled : Table
doubled =
    record {
      header = record { zones = 3; borders = 2; rows = 3; share = minus 1; intraday = 0 };
      nets = small.nets;
      allocated = [];
      borders = small.borders;
      rows = small.rows ++ take 1 small.rows;
      factors = small.factors ++ take 3 small.factors;
    }

-- the second border alone
abbrev second : (b : ℕ) → Bool
second b = eqb b 1

-- the hour's rows, with other last rounds, stopping rows, rounds, margins left and exchanges in kW
abbrev ended_by : (lasts : List ℕ) → (stops : List (Option ℕ)) → (rounds : ℕ) → (margins x : List ℕ) → Result
ended_by lasts stops rounds margins x =
    record {
      header = small.header;
      rows = record { rams = pos 24000000 ∷ pos 100000 ∷ []; states = 0 ∷ 0 ∷ [] };
      p = 10000 ∷ 10000 ∷ 0 ∷ 5000 ∷ [];
      outcome = record { rounds = rounds; state = record { margins = margins; x = x } };
      lasts = lasts;
      stops = stops;
    }

abbrev ended : (rounds : ℕ) → (margins x : List ℕ) → Result
ended rounds margins x = ended_by (9 ∷ 1 ∷ []) (Some 0 ∷ Some 0 ∷ []) rounds margins x

abbrev hour : Result
hour = ended 9 (10000 ∷ 0 ∷ []) (2379 ∷ 20 ∷ [])

-- the records that a call could have left: border 0's ATC, and row 0's margin
abbrev atcs_left : (mw : ℕ) → List (List ℤ)
atcs_left mw = (pos mw ∷ pos 9 ∷ pos 0 ∷ []) ∷ (pos 0 ∷ pos 1 ∷ pos 0 ∷ []) ∷ []

abbrev lefts_left : (margin : ℕ) → List (List ℤ)
lefts_left margin = (pos 0 ∷ pos 24000000 ∷ pos margin ∷ []) ∷ (pos 0 ∷ pos 100000 ∷ pos 0 ∷ []) ∷ []

-- records that a call could have left with border 1 marked: border 1's ATC, with border 0 at its LTA; and the margins of both rows where they start
abbrev second_left : (mw : ℕ) → List (List ℤ)
second_left mw = (pos 2 ∷ pos 0 ∷ minus 1 ∷ []) ∷ (pos mw ∷ pos 1 ∷ pos 0 ∷ []) ∷ []

abbrev start_left : List (List ℤ)
start_left = (pos 0 ∷ pos 24000000 ∷ pos 4000000 ∷ []) ∷ (pos 0 ∷ pos 100000 ∷ pos 100000 ∷ []) ∷ []

-- records that a call could have left: border 0's last round and stopping row
abbrev stop_left : (last : ℕ) → (row : ℤ) → List (List ℤ)
stop_left last row = (pos 2 ∷ pos last ∷ row ∷ []) ∷ []

-- the hour's result with other last rounds and stopping rows
abbrev told : (lasts : List ℕ) → (stops : List (Option ℕ)) → Result
told lasts stops = ended_by lasts stops 9 (10000 ∷ 0 ∷ []) (2379 ∷ 20 ∷ [])

-- what is 0 at both rows is 0 at every row, and what holds of both borders holds of every border
zeros : (f : ℕ → ℤ) → f 0 ≡ pos 0 → f 1 ≡ pos 0 → (i : ℕ) → i < 2 → f i ≡ pos 0
zeros f x y zero h = x
zeros f x y (suc zero) h = y
zeros f x y (suc (suc i)) h = absurd (omega arith)

both : (f g : ℕ → ℕ) → f 0 ≤ g 0 → f 1 ≤ g 1 → (b : ℕ) → b < 2 → f b ≤ g b
both f g x y zero h = x
both f g x y (suc zero) h = y
both f g x y (suc (suc b)) h = absurd (omega arith)

-- an exchange whose whole MW are so many is at least that, and less than the next MW
at_least : (kw mw : ℕ) → pos mw ≡ pos (kw / 1000) → mw * 1000 ≤ kw
at_least kw mw e = subst (λ (v : ℕ). v * 1000 ≤ kw) (sym (ap nat_abs e)) (div-mul-le_self kw 1000)

under : (kw mw : ℕ) → pos mw ≡ pos (kw / 1000) → kw < (mw + 1) * 1000
under kw mw e = let q : mw ≡ kw / 1000 = ap nat_abs e in omega arith

pub record Anchors : Type 0 where
  -- 200, 90, 45, 22, 11, 6, 3, 1 and 1 kW; border 1 rises in the first round alone. Row 0 stops both borders in the end, and so does row 1 border 1
  pub outcome : outcome_marked every small ≡ Ok hour
  pub n : n_of every small ≡ 2
  pub l : l_of every small ≡ 9
  -- N with border 1 alone marked
  pub n_marked : n_of second small ≡ 1
  pub l_marked : l_of second small ≡ 5
  -- 2,379 kW are 2 MW, rounded down
  pub atc : atc_of hour 0 ≡ 2
  pub atc_full : atc_of (ended 9 (10000 ∷ 0 ∷ []) (2999 ∷ 20 ∷ [])) 0 ≡ 2
  -- 2,000 kW are within the ATC, and 2,001 are not
  pub atcs : WithinAtcs small (atc_of hour) (2000 ∷ 0 ∷ [])
  pub beyond_atcs : WithinAtcs small (atc_of hour) (2001 ∷ 0 ∷ []) → ⊥
  -- a load is in grains, of exchanges in kW; a relieving border lowers it
  pub load_0 : load_of small 0 (2379 ∷ 20 ∷ []) ≡ pos 23990000
  pub load_1 : load_of small 1 (1000 ∷ 20 ∷ []) ≡ minus 4900000
  -- border 0 at 2,401 kW, for which the ATC would be the same: this loads row 0 beyond its RAM
  pub beyond : ResultDemand3 small every (ended 9 (10000 ∷ 0 ∷ []) (2401 ∷ 20 ∷ [])) → ⊥
  -- border 0 below its LTA; border 0 above it, and not marked
  pub fell : ResultDemand3 small every (ended 9 (10000 ∷ 0 ∷ []) (1999 ∷ 20 ∷ [])) → ⊥
  pub stayed : ResultDemand3 small second (ended 1 (3790000 ∷ 0 ∷ []) (2001 ∷ 20 ∷ [])) → ⊥
  -- row 0 lost a grain more than the raises took
  pub lost : ResultDemand3 small every (ended 9 (9999 ∷ 0 ∷ []) (2379 ∷ 20 ∷ [])) → ⊥
  -- more rounds than 2 x 2 x 9, and of border 1 alone than 2 x 1 x 5; more than 6,144
  pub many : ResultDemand3 small every (ended 37 (10000 ∷ 0 ∷ []) (2379 ∷ 20 ∷ [])) → ⊥
  pub many_marked : ResultDemand3 small second (ended 11 (3800000 ∷ 0 ∷ []) (2000 ∷ 20 ∷ [])) → ⊥
  pub most : ResultDemand3 small every (ended 6145 (10000 ∷ 0 ∷ []) (2379 ∷ 20 ∷ [])) → ⊥
  -- left at LTA, all or the one marked border; a full first round and none after
  pub at_lta : ResultDemand3 small every (ended 0 (4000000 ∷ 100000 ∷ []) (2000 ∷ 0 ∷ [])) → ⊥
  pub at_lta_marked : ResultDemand3 small second (ended 0 (4000000 ∷ 100000 ∷ []) (2000 ∷ 0 ∷ [])) → ⊥
  pub one_round : ResultDemand3 small every (ended 1 (1800000 ∷ 0 ∷ []) (2200 ∷ 20 ∷ [])) → ⊥
  -- with border 1 alone marked: at 401 kW it loads row 0 beyond its RAM; border 0 below its LTA; row 0 lost a grain more; more than 6,144 rounds
  pub beyond_marked : ResultDemand3 small second (ended 1 (0 ∷ 0 ∷ []) (2000 ∷ 401 ∷ [])) → ⊥
  pub fell_marked : ResultDemand3 small second (ended 1 (3800000 ∷ 0 ∷ []) (1999 ∷ 20 ∷ [])) → ⊥
  pub lost_marked : ResultDemand3 small second (ended 1 (3799999 ∷ 0 ∷ []) (2000 ∷ 20 ∷ [])) → ⊥
  pub most_marked : ResultDemand3 small second (ended 6145 (3800000 ∷ 0 ∷ []) (2000 ∷ 20 ∷ [])) → ⊥
  -- records that a call could have left: an ATC of 3 MW, which loads row 0 beyond its RAM; of 1 MW, below the LTA; of 3 MW on a border that is not marked
  pub left_beyond : LeftDemand3 small every 9 (atcs_left 3) (lefts_left 10000) → ⊥
  pub left_fell : LeftDemand3 small every 9 (atcs_left 1) (lefts_left 10000) → ⊥
  pub left_stayed : LeftDemand3 small second 1 (atcs_left 3) (lefts_left 3800000) → ⊥
  -- a margin left that no whole kW explain; too many rounds; margins left from which border 0 could rise
  pub left_lost : LeftDemand3 small every 9 (atcs_left 2) (lefts_left 9999) → ⊥
  pub left_many : LeftDemand3 small every 37 (atcs_left 2) (lefts_left 10000) → ⊥
  pub left_many_marked : LeftDemand3 small second 11 (atcs_left 2) (lefts_left 3800000) → ⊥
  pub left_most : LeftDemand3 small every 6145 (atcs_left 2) (lefts_left 10000) → ⊥
  pub left_early : LeftDemand3 small every 1 (atcs_left 2) (lefts_left 1800000) → ⊥
  -- records that a call could have left, with border 1 alone marked
  pub left_beyond_marked : LeftDemand3 small second 1 (second_left 1) (lefts_left 3800000) → ⊥
  pub left_fell_marked : LeftDemand3 small second 1 (atcs_left 1) (lefts_left 3800000) → ⊥
  pub left_lost_marked : LeftDemand3 small second 1 (second_left 0) (lefts_left 3799999) → ⊥
  pub left_most_marked : LeftDemand3 small second 6145 (second_left 0) (lefts_left 3800000) → ⊥
  pub left_early_marked : LeftDemand3 small second 0 (second_left 0) start_left → ⊥
  -- E7: row 1 stops border 1 too, but row 0 is the first; row 1 does not load border 0; a share of one kW stops nobody, also where border 0 has no part in it
  pub not_first : StoppedBy small every hour 1 1 → ⊥
  pub not_loaded : StoppedBy small every hour 0 1 → ⊥
  pub not_under : StoppedBy small every (ended 9 (20000 ∷ 0 ∷ []) (2379 ∷ 20 ∷ [])) 0 0 → ⊥
  pub not_shared : StoppedBy small second (ended 1 (15000 ∷ 0 ∷ []) (2000 ∷ 20 ∷ [])) 1 0 → ⊥
  pub no_row : StoppedBy small every hour 0 2 → ⊥
  -- E7: a row that takes no part stops nobody, though its share is 0 and row 0 leaves border 0 two kW
  pub states : (standings_of doubled).states ≡ 0 ∷ 0 ∷ 2 ∷ []
  pub not_kept : StoppedBy doubled every (ended 9 (40000 ∷ 0 ∷ 0 ∷ []) (2379 ∷ 20 ∷ [])) 0 2 → ⊥
  -- E7: border 0 rose in round 9, and border 1 did not in round 2; no row given, and another row than the first
  pub later : BorderStopped small every (told (8 ∷ 1 ∷ []) (Some 0 ∷ Some 0 ∷ [])) 0 → ⊥
  pub earlier : BorderStopped small every (told (9 ∷ 2 ∷ []) (Some 0 ∷ Some 0 ∷ [])) 1 → ⊥
  pub not_told : BorderStopped small every (told (9 ∷ 1 ∷ []) (None ∷ None ∷ [])) 0 → ⊥
  pub other_told : BorderStopped small every (told (9 ∷ 1 ∷ []) (Some 0 ∷ Some 1 ∷ [])) 1 → ⊥
  -- E7: a border that is not marked has no last round and no row
  pub raised_unmarked : Unmarked (told (9 ∷ 1 ∷ []) (None ∷ None ∷ [])) 0 → ⊥
  pub stopped_unmarked : Unmarked (told (0 ∷ 1 ∷ []) (Some 0 ∷ None ∷ [])) 0 → ⊥
  -- E7 of records: another row than border 0's, another round; a row and a round of a border that is not marked
  pub left_row : LeftStopped small every (stop_left 9 (pos 1)) 0 → ⊥
  pub left_last : LeftStopped small every (stop_left 8 (pos 0)) 0 → ⊥
  pub left_row_unmarked : LeftUnmarked (stop_left 0 (pos 0)) 0 → ⊥
  pub left_last_unmarked : LeftUnmarked (stop_left 1 (minus 1)) 0 → ⊥
  -- CVA and IVA are 0 in the hour's rows; 7 is what is not given, and 6 is another refusal
  pub no_reductions : NoReductions small
  pub seven : NotSeven {A = ℕ} (Err (below_zero 0)) → ⊥
  pub six : NotSeven {A = ℕ} (Err (unlimited 0))

pub anchors : Anchors
unfolding if_zero sum count largest lesser least or_zero table first_from given max_ℤ min_ℤ positive_part same_ℤ sum_ℤ hubs_of border_of share_of row_of worth default_of then unless refuse_at refuse_first stretch sharers raise alone raises load lowered risen apply next raised counted run extract after raise_in last_to last_round stop_row most_sharers bits_to bits alone_bits grains f0core_of fuaf_of base_of amr_of signed_factor p_of lta_kw s_of lta_margin_of ram_of ram_at highest lowest spread_of shifted below state_of standings_of kept atc_of left_of last_of stop_of n_of l_of load_of grid_by setup_with begin_by judge_by result_marked outcome_marked
anchors =
    record {
      outcome = refl;
      n = refl;
      l = refl;
      n_marked = refl;
      l_marked = refl;
      atc = refl;
      atc_full = refl;
      atcs = both _ _ (lit≤ tt) (lit≤ tt);
      beyond_atcs = λ w. let h : 2001 ≤ 2000 = w 0 (lit< tt) in omega arith;
      load_0 = refl;
      load_1 = refl;
      beyond = λ d. clash_ℤ (lt_z_yes {a = pos 24000000} {b = pos 24010000} tt) (d.within refl (2401 ∷ 0 ∷ []) (both _ _ (lit≤ tt) (lit≤ tt)) 0 (lit< tt) refl);
      fell = λ d. let h : 2000 ≤ 1999 = d.rose 0 (lit< tt) in omega arith;
      stayed = λ d. let e : ◌≡◌ {A = ℕ} 2001 2000 = d.stayed 0 (lit< tt) refl in omega arith;
      lost = λ d. let e : ◌≡◌ {A = ℕ} 4000000 3999999 = ap nat_abs (d.lost 0 (lit< tt) refl) in omega arith;
      many = λ d. let h : 37 ≤ 36 = d.few in omega arith;
      many_marked = λ d. let h : 11 ≤ 10 = d.few in omega arith;
      most = λ d. let h : 6145 ≤ 6144 = d.most in omega arith;
      at_lta = λ d. let e : ◌≡◌ {A = ℕ} 200 0 = d.still 0 (lit< tt) in omega arith;
      at_lta_marked = λ d. let e : ◌≡◌ {A = ℕ} 20 0 = d.still 1 (lit< tt) in omega arith;
      one_round = λ d. let e : ◌≡◌ {A = ℕ} 90 0 = d.still 0 (lit< tt) in omega arith;
      beyond_marked = λ d. clash_ℤ (lt_z_yes {a = pos 24000000} {b = pos 24010000} tt) (d.within refl (2000 ∷ 401 ∷ []) (both _ _ (lit≤ tt) (lit≤ tt)) 0 (lit< tt) refl);
      fell_marked = λ d. let h : 2000 ≤ 1999 = d.rose 0 (lit< tt) in omega arith;
      lost_marked = λ d. let e : ◌≡◌ {A = ℕ} 4000000 3999999 = ap nat_abs (d.lost 0 (lit< tt) refl) in omega arith;
      most_marked = λ d. let h : 6145 ≤ 6144 = d.most in omega arith;
      left_beyond = λ d.
          clash_ℤ (lt_z_yes {a = pos 24000000} {b = pos 30000000} tt)
          (d.demand.within refl (3000 ∷ 0 ∷ []) (both _ (at d.kw) (at_least (at d.kw 0) 3 (d.floored 0 (lit< tt))) (omega arith)) 0 (lit< tt) refl);
      left_fell = λ d. let h : 2000 ≤ at d.kw 0 = d.demand.rose 0 (lit< tt) in omega (arith, under (at d.kw 0) 1 (d.floored 0 (lit< tt)));
      left_stayed = λ d. let e : at d.kw 0 ≡ 2000 = d.demand.stayed 0 (lit< tt) refl in omega (arith, at_least (at d.kw 0) 3 (d.floored 0 (lit< tt)));
      left_lost = λ d. let e : 4000000 ≡ 9999 + (0 + 10000 * (at d.kw 0 - 2000) + 10000 * (at d.kw 1 - 0)) = ap nat_abs (d.demand.lost 0 (lit< tt) refl) in omega arith;
      left_many = λ d. let h : 37 ≤ 36 = d.demand.few in omega arith;
      left_many_marked = λ d. let h : 11 ≤ 10 = d.demand.few in omega arith;
      left_most = λ d. let h : 6145 ≤ 6144 = d.demand.most in omega arith;
      left_early = λ d. let e : ◌≡◌ {A = ℕ} 90 0 = d.demand.still 0 (lit< tt) in omega arith;
      left_beyond_marked = λ d.
          clash_ℤ (lt_z_yes {a = pos 24000000} {b = pos 30000000} tt)
          (d.demand.within refl (2000 ∷ 1000 ∷ []) (both _ (at d.kw) (at_least (at d.kw 0) 2 (d.floored 0 (lit< tt))) (at_least (at d.kw 1) 1 (d.floored 1 (lit< tt)))) 0 (lit< tt) refl);
      left_fell_marked = λ d. let h : 2000 ≤ at d.kw 0 = d.demand.rose 0 (lit< tt) in omega (arith, under (at d.kw 0) 1 (d.floored 0 (lit< tt)));
      left_lost_marked = λ d. let e : 4000000 ≡ 3799999 + (0 + 10000 * (at d.kw 0 - 2000) + 10000 * (at d.kw 1 - 0)) = ap nat_abs (d.demand.lost 0 (lit< tt) refl) in omega arith;
      left_most_marked = λ d. let h : 6145 ≤ 6144 = d.demand.most in omega arith;
      left_early_marked = λ d. let e : ◌≡◌ {A = ℕ} 20 0 = d.demand.still 1 (lit< tt) in omega arith;
      not_first = λ u. let h : 1 ≤ 0 = u.first 0 (lit< tt) refl (lit< tt) in omega arith;
      not_loaded = λ u. let h : 0 < 0 = u.loads in omega arith;
      not_under = λ u. let h : 1 < 1 = u.under in omega arith;
      not_shared = λ u. let h : 1 < 1 = u.under in omega arith;
      no_row = λ u. let h : 2 < 2 = u.row in omega arith;
      states = refl;
      not_kept = λ u. false≢true u.takes;
      later = λ u. let e : ◌≡◌ {A = ℕ} 1 0 = u.last.no_later 9 (lit< tt) (lit≤ tt) in omega arith;
      earlier = λ u. let h : 0 < 0 = u.last.raised (lit< tt) in omega arith;
      not_told = λ u. false≢true (ap given u.found);
      other_told = λ u.
          let e : 1 ≡ u.row = ap (λ (o : Option ℕ). nat_abs (row_or_dash o)) u.found in
          let h : 1 ≤ 0 = u.stopped.first 0 (omega arith) refl (lit< tt) in
          omega arith;
      raised_unmarked = λ u. let e : ◌≡◌ {A = ℕ} 9 0 = u.last in omega arith;
      stopped_unmarked = λ u. false≢true (sym (ap given u.stop));
      left_row = λ u.
          let e : 0 ≡ u.of_result.row = ap (λ (o : Option ℕ). nat_abs (row_or_dash o)) u.of_result.found in
          let f : 1 ≡ u.of_result.row = ap nat_abs u.row_left_lem in
          omega arith;
      left_last = λ u. let e : ◌≡◌ {A = ℕ} 8 9 = ap nat_abs u.last_left in omega arith;
      left_row_unmarked = λ u. let e : ◌≡◌ {A = ℕ} 0 1 = ap nat_abs u.row_left_lem in omega arith;
      left_last_unmarked = λ u. let e : ◌≡◌ {A = ℕ} 1 0 = ap nat_abs u.last_left in omega arith;
      no_reductions = record { cva = zeros (λ i. (row_at small i).cva) refl refl; iva = zeros (λ i. (row_at small i).iva) refl refl };
      seven = λ n. n refl;
      six = λ e. omega arith;
    }
