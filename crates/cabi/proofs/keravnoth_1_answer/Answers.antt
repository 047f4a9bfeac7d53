-- `cabi::keravnoth_1_answer` meets its contract: what `answer` leaves and tells, coded.
use Rattle.refusals.specs.Refusals.{Ruling}
use mathlib.Core.Path.{ap₂}
use Rattle.text.specs.Left.{TextLeft}
use Rattle.coded.specs.Coded.{answered_coded}
use Rattle.cabi.proofs.keravnoth_1_answer.Goals as goal

pub returns : goal.returns
returns c = rw c.code_answered.ensures (ap₂ (λ (l : TextLeft) (told : Ruling). answered_coded l told) c.answer.ensures.out_after c.answer.ensures.told_value)
