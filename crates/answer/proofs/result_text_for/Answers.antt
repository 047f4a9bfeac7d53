-- `answer::result_text_for` meets its contract: lent tables that were judged good are answered with the text of their outcome (`lent-said`).
use mathlib.Core.Path.{◌∙◌}
use Rattle.std.proofs.lemmas.Result.{err_from_is_err_and}
use Rattle.tablerules.proofs.GoodLaws.{told_good}
use Rattle.answer.proofs.OutcomeLaws.{lent_refused, lent_said}
use Rattle.answer.proofs.result_text_for.Goals as goal

pub returns-in_err-judge : goal.returns-in_err-judge
returns-in_err-judge c = let p = err_from_is_err_and c.from_residual.result c.from_residual.ensures.1 in rw (p.1, p.2) (lent_refused _ _ _ _ _ c.judge.ensures.f_value _ c.in_err-judge.was)

pub answer_good-requires : goal.answer_good-requires
answer_good-requires c = told_good _ c.judge.ensures.good_in c.in_ok-judge.was

pub returns : goal.returns
returns c = c.answer_good.ensures.out_after ∙ lent_said _ _ _ _ _ c.judge.ensures.f_value c.in_ok-judge.was
