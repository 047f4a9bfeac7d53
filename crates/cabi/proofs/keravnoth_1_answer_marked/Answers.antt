-- `cabi::keravnoth_1_answer_marked` meets its contract: what `answer_marked` leaves and tells, coded.
use Rattle.refusals.specs.Refusals.{Ruling}
use mathlib.Core.Path.{ap₂}
use Rattle.text.specs.Left.{TextLeft}
use Rattle.coded.specs.Coded.{answered_coded}
use Rattle.cabi.proofs.keravnoth_1_answer_marked.Goals as goal

pub returns : goal.returns
returns c = rw c.code_answered.ensures (ap₂ (λ (l : TextLeft) (told : Ruling). answered_coded l told) c.answer_marked.ensures.out_after c.answer_marked.ensures.told_value)
