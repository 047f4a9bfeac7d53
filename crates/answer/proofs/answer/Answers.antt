-- `answer::answer` meets its contract: for every border, whatever the marks, and an empty sheet changes nothing (`empty-answer-left`, `empty-told`).
use mathlib.Core.Path.{◌∙◌}
use Rattle.extractrules.specs.Extraction.{outcome_for}
use Rattle.answer.specs.Result.{answer_for, answer_text, answer_for_left, answer_left}
use Rattle.answer.specs.Told.{told_for}
use Rattle.answer.proofs.EmptySheet.{empty_answer_left, empty_told}
use Rattle.answer.proofs.answer.Goals as goal

pub returns : goal.returns
unfolding answer_left answer_text answer_for_left answer_for told_for outcome_for
returns c = record { out_after = c.answer_with.ensures.out_after ∙ empty_answer_left _ _ _ _; told_value = c.answer_with.ensures.written_bound.1 ∙ empty_told _ _ _ }
