-- `answer::answer_in` meets its contract: a refusal of the texts is written and told (`read-refused`), and a table that was read is good (`read-said`).
use mathlib.Core.Path.{◌∙◌}
use native.Mathlib.Omega.{arith}
use Rattle.marks.specs.Marks.{every, listed}
use Rattle.reading.proofs.IntoLaws.{into_refused, into_read, into_good}
use Rattle.answer.proofs.OutcomeLaws.{line_said, read_refused, read_said_lem, read_refused_told, read_said_told}
use Rattle.answer.proofs.answer_in.Goals as goal

pub answer_told-requires : goal.answer_told-requires
answer_told-requires c = into_good c.args.text.now c.args.sheet.now c.read_into.result _ _ _ _ _ c.read_into.ensures c.in-Ok.is

pub returns-in-Ok : goal.returns-in-Ok
returns-in-Ok c = let read = into_read c.args.text.now c.args.sheet.now c.read_into.result _ _ _ _ _ c.read_into.ensures c.in-Ok.is in record { out_after = c.answer_told.ensures.out_after ∙ read_said_lem (every c.args.marks) (listed c.args.marks) c.args.text.now c.args.sheet.now c.args.out.now _ read; written_bound = (c.answer_told.ensures.by_index _ (line_said _), c.answer_told.ensures.told_value ∙ read_said_told (every c.args.marks) (listed c.args.marks) c.args.text.now c.args.sheet.now c.args.out.now _ read) }

pub returns-in-Err : goal.returns-in-Err
returns-in-Err c = let refused = into_refused c.args.text.now c.args.sheet.now c.read_into.result _ _ _ _ _ c.read_into.ensures c.in-Err.is in record { out_after = c.tell_refusal.ensures.out_after ∙ read_refused (every c.args.marks) (listed c.args.marks) c.args.text.now c.args.sheet.now c.args.out.now _ refused; written_bound = (omega (arith, c.tell_refusal.ensures.written_bound.0), c.tell_refusal.ensures.written_bound.1 ∙ read_refused_told (every c.args.marks) (listed c.args.marks) c.args.text.now c.args.sheet.now c.args.out.now _ refused) }
