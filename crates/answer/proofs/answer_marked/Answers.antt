-- `answer::answer_marked` meets its contract: an empty sheet changes nothing (`empty-answer-left`, `empty-told`).
use mathlib.Core.Path.{◌∙◌}
use Rattle.answer.specs.Result.{answer_marked_left}
use Rattle.answer.proofs.EmptySheet.{empty_answer_left, empty_told}
use Rattle.answer.proofs.answer_marked.Goals as goal

pub returns : goal.returns
unfolding answer_marked_left
returns c = record { out_after = c.answer_with.ensures.out_after ∙ empty_answer_left _ _ _ _; told_value = c.answer_with.ensures.written_bound.1 ∙ empty_told _ _ _ }
