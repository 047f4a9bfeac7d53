-- `cabi::keravnoth_1_margins` meets its contract: what `margins` leaves, coded.
use Rattle.coded.proofs.JudgedLaws.{margins_judged}
use Rattle.cabi.proofs.keravnoth_1_margins.Goals as goal

pub returns : goal.returns
returns c = rw c.code_judged.ensures (margins_judged c.margins.result _ c.margins.ensures)
