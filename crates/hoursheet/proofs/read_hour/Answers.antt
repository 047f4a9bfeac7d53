-- `hoursheet::read_hour` meets its contract: an hour that was read has the figures of its text, and another none (`came-some`, `came-none`).
use Rattle.marks.specs.Marks.{every, listed}
use Rattle.hourtables.proofs.DayLaws.{came_none, came_some}
use Rattle.hoursheet.proofs.read_hour.Goals as goal

pub returns-in_default : goal.returns-in_default
returns-in_default c = came_none _ _ _ _ _

pub returns : goal.returns
returns c = came_some (every c.args.marks) (listed c.args.marks) c.args.k c.args.ways.now c.args.atcs.now _ c.keep_hour.ensures
