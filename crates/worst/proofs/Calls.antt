-- The rounds that a call answers are known beforehand (`specs/Worst.antt`), in both profiles, of every border or with marks: of `extract` and `extract_marked` in lent memory,
-- and of the texts of the `answer` and `result_text` calls.
use Rattle.std.specs.Prelude.{Ok}
use mathlib.Core.Path.{◌≡◌, subst}
use mathlib.Core.Bool.{Bool}
use mathlib.Core.List.{List}
use Prim.Native.Char.{code}
use Prim.Native.Nat.{ℕ}
use lib.IntN.{ℤ}
use lib.ListN.{take}
use Rattle.numbers.specs.Below.{at}
use Rattle.refusals.specs.Refusals.{Judged}
use Rattle.marks.specs.Marks.{may_rise}
use Rattle.tablerules.specs.Table.{Table, front, judge_lent}
use Rattle.tablerules.specs.Good.{Good}
use Rattle.tablerules.proofs.GoodLaws.{judged_good}
use Rattle.reading.specs.Reading.{read_corrected}
use Rattle.reading.proofs.CorrectedLaws.{corrected_good}
use Rattle.extractrules.specs.Extraction.{extract_for}
use Rattle.extractrules.proofs.LentLaws.{accepted_for}
use Rattle.answer.specs.Result.{result_text_for, answer_with}
use Rattle.theorems.proofs.TextDemand.{TextDemand3, answer_demand_3, result_text_demand_3}
use Rattle.worst.specs.Worst.{Known, TextKnown}
use Rattle.worst.proofs.Worst.{table_known, accepted_known}

-- `extract` asks for every border, `extract_marked` for those of its list
pub extract_known : (all : Bool) (marks : List ℕ) (given : Table) (ps : List ℕ) (atcs lefts : List (List ℤ)) (k : ℕ) → (extract_for all marks given ps atcs lefts).answer ≡ Ok k
    → Known (may_rise all marks) (front given) k
extract_known all marks given ps atcs lefts k e =
    let a = accepted_for all marks given ps atcs lefts k e in
    subst (Known (may_rise all marks) (front given)) a.rounds (table_known (may_rise all marks) (judged_good given (front given) a.judged))

-- a text for which demand 3 holds
text_known : {marked : ℕ → Bool} {read : Judged Table} {answered : List ℕ} → ((t : Table) → read ≡ Ok t → Good t) → TextDemand3 marked read answered → TextKnown marked read answered
text_known {marked} good d =
    record {
      table = d.table;
      result = d.result;
      is = d.is;
      printed = d.printed;
      known = accepted_known marked (good d.table d.is) d.result d.outcome;
    }

-- every text and sheet that is answered with results: an E line is the only other answer
pub answer_known : (all : Bool) (marks text sheet : List ℕ) → (at (answer_with all marks text sheet) 0 ≡ code "E" → ⊥)
    → TextKnown (may_rise all marks) (read_corrected text sheet) (answer_with all marks text sheet)
answer_known all marks text sheet h = text_known (corrected_good text sheet) (answer_demand_3 all marks text sheet h)

-- every text that `result_text` and `result_text_marked` leave of lent tables
pub result_text_known : (all : Bool) (marks : List ℕ) (given : Table) (out : List ℕ) (n : ℕ) → let left = result_text_for all marks given out in
    left.answer ≡ Ok n → TextKnown (may_rise all marks) (judge_lent given) (take n left.out)
result_text_known all marks given out n e = text_known (judged_good given) (result_text_demand_3 all marks given out n e)
