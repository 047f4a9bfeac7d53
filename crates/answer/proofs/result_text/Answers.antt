-- `answer::result_text` meets its contract: for every border, whatever the marks.
use Rattle.extractrules.specs.Extraction.{outcome_for}
use Rattle.answer.specs.Result.{result_text_for, result_text_left}
use Rattle.answer.proofs.result_text.Goals as goal

pub returns : goal.returns
unfolding result_text_left result_text_for outcome_for
returns c = c.result_text_for.ensures
