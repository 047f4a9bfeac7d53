-- 01: if CVA and IVA are 0 in every row, `bound` and `bound_marked` do not answer refusal 7 either: they judge a table as the extraction does.
use mathlib.Core.Path.{sym, subst}
use mathlib.Core.Bool.{Bool}
use mathlib.Core.List.{List}
use Prim.Native.Nat.{ℕ}
use Rattle.marks.specs.Marks.{may_rise}
use Rattle.tablerules.specs.Table.{Table, judge_lent}
use Rattle.tablerules.proofs.GoodLaws.{judged_front}
use Rattle.extractrules.specs.Start.{judge_marked}
use Rattle.promises.specs.Seven.{NotSeven, NoReductions}
use Rattle.theorems.proofs.Seven.{not_seven, judged_not_7, asked_not_7, lent_not_7, front_reductions}
use Rattle.theorems.proofs.ToldLaws.{told_passed, told_then}
use Rattle.boundrules.specs.Bound.{bound_marked, bound_for}

pub bound_not_7 : (all : Bool) (marks : List ℕ) (given : Table) → NoReductions given → NotSeven (bound_for all marks given)
unfolding bound_for bound_marked
bound_not_7 all marks given none-taken =
    not_seven (bound_for all marks given)
    (told_then (judge_lent given) _ (lent_not_7 given)
    (λ t e.
    let none_here : NoReductions t = subst NoReductions (sym (judged_front given t e)) (front_reductions given none-taken) in
    asked_not_7 all t.header.borders marks _ (told_then (judge_marked (may_rise all marks) t) _ (judged_not_7 t none_here (may_rise all marks)) (λ states q. told_passed _))))
