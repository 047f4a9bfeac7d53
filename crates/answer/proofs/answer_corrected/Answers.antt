-- `answer::answer_corrected` meets its contract: for every border, whatever the marks.
use Rattle.extractrules.specs.Extraction.{outcome_for}
use Rattle.answer.specs.Result.{answer_with, answer_with_left, answer_corrected_left}
use Rattle.answer.specs.Told.{told_with}
use Rattle.answer.proofs.answer_corrected.Goals as goal

pub returns : goal.returns
unfolding answer_corrected_left answer_with_left answer_with told_with outcome_for
returns c = record { out_after = c.answer_with.ensures.out_after; told_value = c.answer_with.ensures.written_bound.1 }
