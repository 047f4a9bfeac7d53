-- `cabi::keravnoth_1_refusal_text` meets its contract: what `refusal_text` leaves, coded.
use mathlib.Core.Path.{ap}
use Rattle.coded.specs.Coded.{text_coded}
use Rattle.cabi.proofs.keravnoth_1_refusal_text.Goals as goal

pub returns : goal.returns
returns c = rw c.code_written.ensures (ap text_coded c.refusal_text.ensures)
