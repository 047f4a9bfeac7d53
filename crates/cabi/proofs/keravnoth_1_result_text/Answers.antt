-- `cabi::keravnoth_1_result_text` meets its contract: what `result_text` leaves, coded.
use mathlib.Core.Path.{ap}
use Rattle.coded.specs.Coded.{text_coded}
use Rattle.cabi.proofs.keravnoth_1_result_text.Goals as goal

pub returns : goal.returns
returns c = rw c.code_written.ensures (ap text_coded c.result_text.ensures)
