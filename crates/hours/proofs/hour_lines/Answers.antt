-- `hours::hour_lines` meets its contract: the laws `answer-fits` and `answer-printed`.
use mathlib.Core.Path.{◌∙◌}
use Rattle.marks.specs.Marks.{every, listed}
use Rattle.hours.proofs.HourLaws.{answer_fits, answer_printed}
use Rattle.hours.proofs.hour_lines.Goals as goal

pub put_labelled-requires : goal.put_labelled-requires
put_labelled-requires c = answer_fits c.args.name.now c.label_of.ensures c.requires.0 c.args.out.now c.requires.2 (every c.args.marks) (listed c.args.marks) c.args.text.now
    (c.put_answer-n.auto.out ∙ c.requires.1) c.put_answer-n.ensures

pub returns : goal.returns
returns c = answer_printed c.args.name.now c.label_of.ensures (every c.args.marks) (listed c.args.marks) c.args.text.now c.put_answer-n.ensures
    c.put_labelled.ensures
