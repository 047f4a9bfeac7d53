-- Demand 3 on the worked hour (01): it is true of its result, says what it should at the capacities, and rejects a result left at LTA and one after the first round only.
use Rattle.std.specs.Prelude.{Ok, Some}
use mathlib.Core.Path.{◌≡◌, refl}
use mathlib.Core.List.{List, [], ◌∷◌}
use Prim.Native.Nat.{ℕ, zero, suc, ◌≤◌, ◌<◌}
use native.Mathlib.Omega.{arith}
use lib.Dec.{lit≤, lit<}
use lib.IntN.{pos, ◌-ℤ◌}
use lib.Signed.{◌≤ℤ◌}
use Rattle.tablerules.specs.Table.{judge_lent}
use Rattle.tablerules.proofs.GoodLaws.{judged_good}
use Rattle.rounds.specs.Rounds.{State, next}
use Rattle.marginrules.specs.Margin.{ram_at}
use Rattle.extractrules.specs.Start.{every, table_grid, table_start}
use Rattle.extractrules.specs.Extraction.{Result, atc_of, left_of, outcome_of}
use Rattle.promises.specs.Demand.{load_of, UpTo, WithinAtcs, ResultDemand3}
use Rattle.theorems.proofs.Demand3.{accepted_demand_3, atcs_up_to}
use Rattle.figures.specs.Computing.{computing}
use Rattle.figures.specs.Hour.{hour_table}

-- the hour's rows, last rounds and stopping rows, with these rounds and this state
abbrev ended : (rounds : ℕ) → State → Result
ended rounds s =
    record {
      header = hour_table.header;
      rows = record { rams = pos 70000000000 ∷ pos 9000000000 ∷ pos 12499500000 ∷ pos 100000000000 ∷ []; states = 0 ∷ 0 ∷ 1 ∷ 2 ∷ [] };
      p = 20000 ∷ 10000 ∷ 0 ∷ 5000 ∷ 0 ∷ 0 ∷ 0 ∷ 0 ∷ [];
      outcome = record { rounds = rounds; state = s };
      lasts = 21 ∷ 1 ∷ [];
      stops = Some 0 ∷ Some 1 ∷ [];
    }

abbrev state : (margins x : List ℕ) → State
state margins x = record { margins = margins; x = x }

abbrev pub hour_end : Result
hour_end = ended 21 (state (20000 ∷ 0 ∷ 0 ∷ 0 ∷ []) (2599999 ∷ 1800000 ∷ []))

-- where it starts: at LTA, each margin RAM - S
abbrev hour_start : State
hour_start = table_start hour_table

pub both : (f g : ℕ → ℕ) → f 0 ≤ g 0 → f 1 ≤ g 1 → (b : ℕ) → b < 2 → f b ≤ g b
both f g x y zero h = x
both f g x y (suc zero) h = y
both f g x y (suc (suc b)) h = absurd (omega arith)

pub record HourDemand : Type 0 where
  pub result : outcome_of hour_table ≡ Ok hour_end
  -- demand 3 of the hour's result
  pub holds : ResultDemand3 hour_table every hour_end
  -- at 2,599,000 and 1,800,000 kW row 0 carries 69,980,000,000 grains of 70,000,000,000, and row 1 all of its 9,000,000,000
  pub within_0 : load_of hour_table 0 (2599000 ∷ 1800000 ∷ []) ≤ℤ ram_at hour_table 0
  pub within_1 : load_of hour_table 1 (2599000 ∷ 1800000 ∷ []) ≤ℤ ram_at hour_table 1
  pub load_0 : load_of hour_table 0 (2599000 ∷ 1800000 ∷ []) ≡ pos 69980000000
  pub load_1 : load_of hour_table 1 (2599000 ∷ 1800000 ∷ []) ≡ pos 9000000000
  pub ram_0 : ram_at hour_table 0 ≡ pos 70000000000
  pub ram_1 : ram_at hour_table 1 ≡ pos 9000000000
  -- where border 0 ends, at 2,599,999 kW, row 0 carries its RAM less the 20,000 left
  pub load_end : load_of hour_table 0 (2599999 ∷ 1800000 ∷ []) ≡ pos 69999980000
  pub left_end : load_of hour_table 0 (2599999 ∷ 1800000 ∷ []) ≡ ram_at hour_table 0 -ℤ pos (left_of hour_end 0)
  -- a build that leaves the exchanges at LTA, and one that does a full first round and none after
  pub at_lta : ResultDemand3 hour_table every (ended 0 hour_start) → ⊥
  pub one_round : ResultDemand3 hour_table every (ended 1 (next (table_grid hour_table) hour_start)) → ⊥

hour_end_lem : outcome_of hour_table ≡ Ok hour_end
unfolding computing
hour_end_lem = refl

pub hour_judged : judge_lent hour_table ≡ Ok hour_table
unfolding computing
hour_judged = refl

hour_holds : ResultDemand3 hour_table every hour_end
unfolding outcome_of
hour_holds = accepted_demand_3 every hour_table hour_end (judged_good hour_table hour_table hour_judged) hour_end_lem

-- 2,599,000 and 1,800,000 kW are within the ATCs
hour_atcs : WithinAtcs hour_table (atc_of hour_end) (2599000 ∷ 1800000 ∷ [])
unfolding computing
hour_atcs = both _ _ (lit≤ tt) (lit≤ tt)

hour_within : UpTo hour_table hour_end.outcome.state.x (2599000 ∷ 1800000 ∷ [])
unfolding atc_of
hour_within = atcs_up_to hour_table hour_end.outcome.state.x (atc_of hour_end) (λ b h. refl) (2599000 ∷ 1800000 ∷ []) hour_atcs

pub hour_demand : HourDemand
unfolding computing
hour_demand =
    record {
      result = hour_end_lem;
      holds = hour_holds;
      within_0 = hour_holds.within refl (2599000 ∷ 1800000 ∷ []) hour_within 0 (lit< tt) refl;
      within_1 = hour_holds.within refl (2599000 ∷ 1800000 ∷ []) hour_within 1 (lit< tt) refl;
      load_0 = refl;
      load_1 = refl;
      ram_0 = refl;
      ram_1 = refl;
      load_end = refl;
      left_end = refl;
      at_lta = λ d. let e : ◌≡◌ {A = ℕ} 1650000 0 = d.still 0 (lit< tt) in omega arith;
      one_round = λ d. let e : ◌≡◌ {A = ℕ} 425000 0 = d.still 0 (lit< tt) in omega arith;
    }
