-- `marks::chosen` meets its contract.
use Rattle.marks.proofs.chosen.Goals as goal

pub returns : goal.returns
returns c = c.choose.ensures
