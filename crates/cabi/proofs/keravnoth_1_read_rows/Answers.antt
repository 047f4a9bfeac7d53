-- `cabi::keravnoth_1_read_rows` meets its contract: what `read_rows` leaves, coded.
use Rattle.coded.proofs.JudgedLaws.{rows_judged}
use Rattle.cabi.proofs.keravnoth_1_read_rows.Goals as goal

pub returns : goal.returns
returns c = rw c.code_judged.ensures (rows_judged c.read_rows.result _ _ c.read_rows.ensures)
