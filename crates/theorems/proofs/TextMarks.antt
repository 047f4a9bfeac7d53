-- With all borders marked, in any order, the text is the ordinary one (02, E13): of lent tables, and of a table's text.
use Rattle.std.specs.Prelude.{Err, Ok}
use mathlib.Core.Path.{◌≡◌, refl, sym, ap, subst, ◌∙◌}
use mathlib.Core.Bool.{true, false}
use mathlib.Core.List.{List, []}
use Prim.Native.Nat.{ℕ}
use Rattle.refusals.specs.Refusals.{Judged, then, either}
use Rattle.text.specs.Left.{text_left}
use Rattle.tablerules.specs.Table.{Table, judge_lent}
use Rattle.tablerules.proofs.GoodLaws.{judged_front}
use Rattle.reading.specs.Reading.{read_text}
use Rattle.extractrules.specs.Extraction.{Result, outcome_for}
use Rattle.promises.specs.Marked.{AllMarked}
use Rattle.theorems.proofs.EveryMark.{all_marked_outcome, ordinary_outcome}
use Rattle.result.specs.Refusal.{refusal_text}
use Rattle.answer.specs.Result.{result_text, result_text_for, result_text_left, result_text_marked_left, answer_for, answer_text, answer_for_left, answer_left, answer_marked_left}

pub all_marked_result : (given : Table) (marks : List ℕ) → AllMarked given.header.borders marks → (out : List ℕ) → result_text_marked_left given marks out ≡ result_text_left given out
unfolding result_text_marked_left result_text_left result_text_for then
all_marked_result given marks all out = ap (λ (j : Judged (List ℕ)). text_left j out) (go (judge_lent given) refl)
  where
    go : (j : Judged Table) → judge_lent given ≡ j → then j (λ t. then (outcome_for false marks t) (λ r. Ok (result_text r))) ≡ then j (λ t. then (outcome_for true [] t) (λ r. Ok (result_text r)))
    go (Err w) e = refl
    go (Ok t) e =
        let All-here = subst (λ (u : Table). AllMarked u.header.borders marks) (sym (judged_front given t e)) all in
        ap (λ (o : Judged Result). then o (λ r. Ok (result_text r))) (all_marked_outcome marks t All-here ∙ sym (ordinary_outcome t))

-- a text that holds no table is answered alike, whatever the marks
pub all_marked_answer : (text marks : List ℕ) → ((t : Table) → read_text text ≡ Ok t → AllMarked t.header.borders marks) → (out : List ℕ) → answer_marked_left text marks out ≡ answer_left text out
unfolding answer_marked_left answer_for_left answer_left answer_text answer_for then
all_marked_answer text marks all out = ap (λ (j : Judged Result). text_left (Ok (either j result_text refusal_text)) out) (go (read_text text) refl)
  where
    go : (j : Judged Table) → read_text text ≡ j → then j (outcome_for false marks) ≡ then j (outcome_for true [])
    go (Err w) e = refl
    go (Ok t) e = all_marked_outcome marks t (all t e) ∙ sym (ordinary_outcome t)
