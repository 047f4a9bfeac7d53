-- `hours::put_answer` meets its contract: the law `answer-left`.
use Rattle.hours.proofs.HourLaws.{answer_left_lem}
use Rattle.hours.proofs.put_answer.Goals as goal

pub returns : goal.returns
returns c = answer_left_lem _ _ _ c.args.out.now c.answer_with-answered.result.written c.answer_with-answered.ensures.out_after c.answer_with-answered.ensures.written_bound.0 c.requires c.told.ensures
