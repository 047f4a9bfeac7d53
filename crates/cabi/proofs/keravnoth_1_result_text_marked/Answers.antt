-- `cabi::keravnoth_1_result_text_marked` meets its contract: what `result_text_marked` leaves, coded.
use mathlib.Core.Path.{ap}
use Rattle.coded.specs.Coded.{text_coded}
use Rattle.cabi.proofs.keravnoth_1_result_text_marked.Goals as goal

pub returns : goal.returns
returns c = rw c.code_written.ensures (ap text_coded c.result_text_marked.ensures)
