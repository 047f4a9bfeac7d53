-- `cabi::keravnoth_1_write_rows` meets its contract: what `write_rows` leaves, coded.
use mathlib.Core.Path.{ap}
use Rattle.coded.specs.Coded.{text_coded}
use Rattle.cabi.proofs.keravnoth_1_write_rows.Goals as goal

pub returns : goal.returns
returns c = rw c.code_written.ensures (ap text_coded c.write_rows.ensures)
