-- `answer::result_text_marked` meets its contract.
use Rattle.answer.specs.Result.{result_text_marked_left}
use Rattle.answer.proofs.result_text_marked.Goals as goal

pub returns : goal.returns
unfolding result_text_marked_left
returns c = c.result_text_for.ensures
