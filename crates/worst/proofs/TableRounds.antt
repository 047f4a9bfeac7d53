-- The extraction's rounds are at most what `bound` answered before the first of them (`AtMost`): both profiles, with and without marks. Of 2 N L it is demand 3 of the same grid and
-- the same start; of the sharper bound it is `extract-few`. Where the extraction answers rounds, `bound` answers too.
use Rattle.std.specs.Prelude.{Ok}
use mathlib.Core.Path.{◌≡◌, refl, sym, ap, subst, ◌∙◌}
use mathlib.Core.Bool.{Bool, true, false}
use mathlib.Core.List.{List, []}
use Prim.Native.Nat.{ℕ, ◌≤◌}
use lib.IntN.{ℤ}
use lib.ListN.{length}
use Rattle.refusals.proofs.RefusalLaws.{passed_is, then_passed, then_next, answer_passed, need_passed}
use Rattle.marks.specs.Marks.{judge_asked, may_rise}
use Rattle.marks.proofs.MarkLaws.{asked_then}
use Rattle.tablerules.specs.Table.{Table}
use Rattle.rounds.proofs.Theorems.{extract_demand3}
use Rattle.extractrules.specs.Start.{grid_marked, table_start, judge_marked}
use Rattle.extractrules.specs.Extraction.{Result, result_marked, outcome_marked, outcome_for, judge_extract, ExtractLeft, result_room, extract_for, extract_left, extract_marked_left}
use Rattle.extractrules.proofs.LentLaws.{judged_lent}
use Rattle.tightrules.specs.Measure.{bound_by}
use Rattle.tightrules.proofs.SharperLaws.{tight_le}
use Rattle.boundrules.specs.Bound.{bound_of, bound_marked, bound_for, AtMost}
use Rattle.worst.proofs.FewRounds.{extract_few}

-- ---- a judged table
module _ (marked : ℕ → Bool) (t : Table) where
  -- demand 3's bound of the same rounds
  pub table_few : (result_marked marked t).outcome.rounds ≤ (bound_of marked t).rounds
  unfolding result_marked bound_by
  table_few = (extract_demand3 (grid_marked marked t) (table_start t)).few

  -- the sharper bound of the same rounds, and that it is never above the other
  pub table_sharp : (result_marked marked t).outcome.rounds ≤ (bound_of marked t).sharp
  unfolding result_marked bound_by
  table_sharp = extract_few (grid_marked marked t) (table_start t)

  pub table_sharper : (bound_of marked t).sharp ≤ (bound_of marked t).rounds
  unfolding bound_by
  table_sharper = tight_le (grid_marked marked t) (table_start t).margins

  answered-too : (r : Result) → outcome_marked marked t ≡ Ok r
      → (bound_marked marked t ≡ Ok (bound_of marked t)) × (r.outcome.rounds ≤ (bound_of marked t).rounds) × (r.outcome.rounds ≤ (bound_of marked t).sharp)
  unfolding outcome_marked bound_marked
  answered-too r e =
      let w = then_passed (judge_marked marked t) _ r e in
      let is : result_marked marked t ≡ r = passed_is _ _ w.second in (
        then_next _ w.first,
        subst (λ (v : Result). v.outcome.rounds ≤ (bound_of marked t).rounds) is table_few,
        subst (λ (v : Result). v.outcome.rounds ≤ (bound_of marked t).sharp) is table_sharp,
      )

-- ---- lent tables, as asked
module _ (all : Bool) (marks : List ℕ) (given : Table) (ps : List ℕ) (atcs lefts : List (List ℤ)) (k : ℕ) where
  pub rounds_at_most : (extract_for all marks given ps atcs lefts).answer ≡ Ok k → AtMost (bound_for all marks given) k
  unfolding extract_for outcome_for bound_for
  rounds_at_most e =
      let a = answer_passed _ _ _ (λ (l : ExtractLeft). l.answer) k (λ w. refl) e in
      let j = then_passed (judge_extract given (length ps)) _ a.0 a.1 in
      let o = then_passed (outcome_for all marks j.it) (result_room atcs lefts) a.0 j.second in
      let r = need_passed a.0 _ _ _ (need_passed a.0 _ _ _ o.second).1 in
      let t = j.it in
      let asked = asked_then all t.header.borders marks marks (outcome_marked (may_rise all marks) t) in
      let m = then_passed (judge_asked all t.header.borders marks (Ok marks)) _ o.it (asked ∙ o.first) in
      let b = answered-too (may_rise all marks) t o.it m.second in
      let same : o.it ≡ a.0 = passed_is _ _ r.1 in
      let rounds : o.it.outcome.rounds ≡ k = ap (λ (v : Result). v.outcome.rounds) same ∙ passed_is _ _ a.2 in
      record {
        most = bound_of (may_rise all marks) t;
        answered =
            then_next _ (judged_lent given t (length ps) j.first)
            ∙ sym (asked_then all t.header.borders marks marks (bound_marked (may_rise all marks) t))
            ∙ then_next _ m.first
            ∙ b.0;
        few = subst (λ (n : ℕ). n ≤ (bound_of (may_rise all marks) t).rounds) rounds b.1;
        sharp = subst (λ (n : ℕ). n ≤ (bound_of (may_rise all marks) t).sharp) rounds b.2;
        sharper = table_sharper (may_rise all marks) t;
      }

-- the rounds of the open calls are at most what `bound` answers
pub extract_at_most : (given : Table) (ps : List ℕ) (atcs lefts : List (List ℤ)) (k : ℕ) → (extract_left given ps atcs lefts).answer ≡ Ok k → AtMost (bound_for true [] given) k
unfolding extract_left
extract_at_most given ps atcs lefts k e = rounds_at_most true [] given ps atcs lefts k e

pub extract_marked_at_most : (given : Table) (marks ps : List ℕ) (atcs lefts : List (List ℤ)) (k : ℕ) → (extract_marked_left given marks ps atcs lefts).answer ≡ Ok k → AtMost (bound_for false marks given) k
unfolding extract_marked_left
extract_marked_at_most given marks ps atcs lefts k e = rounds_at_most false marks given ps atcs lefts k e
