-- `hours::print_hour` is safe: the label that was tested is that of the name.
use mathlib.Core.Path.{ap}
use native.Mathlib.Omega.{arith}
use lib.ListN.{length}
use Rattle.hours.proofs.print_hour.Goals as goal

pub print_unread-requires : goal.print_unread-requires
print_unread-requires c = (omega (arith, ap length c.label_of-label.ensures), c.requires.1)

pub print_answer-requires : goal.print_answer-requires
print_answer-requires c = (omega (arith, ap length c.label_of-label.ensures), c.requires.0, c.requires.1)
