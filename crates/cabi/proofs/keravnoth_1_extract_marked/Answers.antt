-- `cabi::keravnoth_1_extract_marked` meets its contract: what `extract_marked` leaves, coded.
use mathlib.Core.Path.{ap}
use Rattle.coded.specs.Coded.{extract_coded}
use Rattle.cabi.proofs.keravnoth_1_extract_marked.Goals as goal

pub returns : goal.returns
returns c = rw c.code_extracted.ensures (ap extract_coded c.extract_marked.ensures)
