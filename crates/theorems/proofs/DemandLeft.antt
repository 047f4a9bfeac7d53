-- Demand 3 of what the calls leave (promises: specs/DemandLeft), for every lent input that they answer with rounds, of every border or with marks.
use Rattle.std.specs.Prelude.{Ok}
use mathlib.Core.Path.{◌≡◌, sym, ap, subst, ◌∙◌}
use mathlib.Core.Bool.{Bool, true, false, cond}
use mathlib.Core.List.{List, []}
use Prim.Native.Nat.{ℕ, ◌≤◌, ◌<◌}
use native.Mathlib.Omega.{arith}
use lib.IntN.{ℤ, pos}
use lib.ListN.{get_or, get_or-append}
use Rattle.numbers.specs.Ints.{minus, positive_part}
use Rattle.numbers.specs.Below.{table, over}
use Rattle.numbers.proofs.BelowLaws.{table_long, table_get}
use Rattle.types.specs.Ranges.{at_ℤ}
use Rattle.marks.specs.Marks.{may_rise}
use Rattle.tablerules.specs.Table.{Table, front}
use Rattle.tablerules.specs.Good.{Good}
use Rattle.tablerules.proofs.GoodLaws.{judged_good}
use Rattle.staterules.specs.Standings.{standings_of}
use Rattle.setup.specs.Setup.{begin_by, end_by}
use Rattle.staterules.specs.States.{kept}
use Rattle.extractrules.specs.Start.{setup_with}
use Rattle.extractrules.specs.Extraction.{Result, outcome_marked, result_marked, left_of, atc_record, row_record, ExtractLeft, extract_for}
use Rattle.extractrules.proofs.AcceptedLaws.{accepted}
use Rattle.extractrules.proofs.LentLaws.{accepted_for}
use Rattle.promises.specs.Demand.{UpTo, WithinAtcs}
use Rattle.promises.specs.DemandLeft.{atc_in, left_in, LeftDemand3}
use Rattle.theorems.proofs.Demand3.{atcs_up_to, demand_of}

-- ---- what stands in front of a lent buffer
pub over_get : {A : Type 0} (n : ℕ) (f : ℕ → A) (old : List A) (i : ℕ) (d : A) → i < n → get_or (over (table n f) old) i d ≡ f i
over_get n f old i d h = get_or-append (table n f) _ d i (omega (arith, table_long n f)) ∙ table_get n f i d h

-- ---- the records of an accepted table's result
module _ (marked : ℕ → Bool) (t : Table) (atcs lefts : List (List ℤ)) where
  abbrev its : Result
  its = result_marked marked t

  abbrev lefts_left : List (List ℤ)
  lefts_left = over (table t.header.rows (row_record its)) lefts

  left_in_lem : (i : ℕ) → i < t.header.rows → left_in lefts_left i ≡ cond (kept (standings_of t).states i) (pos (left_of its i)) (minus 1)
  unfolding row_record kept result_marked
  left_in_lem i h = ap (λ (x : List ℤ). at_ℤ x 2) (over_get t.header.rows (row_record its) lefts i [] h)

  left-kept : (i : ℕ) → i < t.header.rows → kept (standings_of t).states i ≡ true → left_in lefts_left i ≡ pos (left_of its i)
  left-kept i h k = left_in_lem i h ∙ ap (λ (c : Bool). cond c (pos (left_of its i)) (minus 1)) k

  left_le : (i : ℕ) → i < t.header.rows → positive_part (left_in lefts_left i) ≤ left_of its i
  unfolding positive_part
  left_le i h = subst (λ (z : ℤ). positive_part z ≤ left_of its i) (sym (left_in_lem i h)) (go (kept (standings_of t).states i))
    where
      go : (k : Bool) → positive_part (cond k (pos (left_of its i)) (minus 1)) ≤ left_of its i
      go true = omega arith
      go false = omega arith

  left-demand-3 : Good t → outcome_marked marked t ≡ Ok its → LeftDemand3 t marked its.outcome.rounds (over (table t.header.borders (atc_record its)) atcs) lefts_left
  unfolding atc_record result_marked end_by begin_by setup_with left_of
  left-demand-3 good e =
      record {
        kw = its.outcome.state.x;
        floored = λ b h. ap (λ (x : List ℤ). at_ℤ x 0) (over_get t.header.borders (atc_record its) atcs b [] h);
        demand = demand_of marked t good (accepted marked t its e).above (left_in lefts_left) left-kept left_le;
      }

-- ---- demand 3 of the calls: `extract` asks for every border, `extract_marked` for those of its list
pub extract_demand_3 : (all : Bool) (marks : List ℕ) (given : Table) (ps : List ℕ) (atcs lefts : List (List ℤ)) (k : ℕ) → let e = extract_for all marks given ps atcs lefts in
    e.answer ≡ Ok k → LeftDemand3 (front given) (may_rise all marks) k e.atcs e.lefts
unfolding result_marked
extract_demand_3 all marks given ps atcs lefts k e =
    let a = accepted_for all marks given ps atcs lefts k e in
    let t = front given in
    let marked = may_rise all marks in
    let left = extract_for all marks given ps atcs lefts in
    subst (λ (n : ℕ). LeftDemand3 t marked n left.atcs left.lefts) a.rounds
    (subst (λ (l : ExtractLeft). LeftDemand3 t marked (result_marked marked t).outcome.rounds l.atcs l.lefts) (sym a.left)
    (left-demand-3 marked t atcs lefts (judged_good given t a.judged) a.outcome))

-- exchanges up to the ATCs left are up to the final ones, so that demand 3 holds of them
pub within_left : {t : Table} {marked : ℕ → Bool} {rounds : ℕ} {atcs lefts : List (List ℤ)} → (d : LeftDemand3 t marked rounds atcs lefts)
    → (exchanges : List ℕ) → WithinAtcs t (λ b. positive_part (atc_in atcs b)) exchanges → UpTo t d.kw exchanges
unfolding positive_part
within_left {t} {marked} {rounds} {atcs} {lefts} d = atcs_up_to t d.kw (λ b. positive_part (atc_in atcs b)) (λ b h. ap positive_part (d.floored b h))
