-- `cabi::keravnoth_1_extract` meets its contract: what `extract` leaves, coded.
use mathlib.Core.Path.{ap}
use Rattle.coded.specs.Coded.{extract_coded}
use Rattle.cabi.proofs.keravnoth_1_extract.Goals as goal

pub returns : goal.returns
returns c = rw c.code_extracted.ensures (ap extract_coded c.extract.ensures)
