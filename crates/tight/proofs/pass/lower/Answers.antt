-- `tight::pass::lower` meets its contract: the values stay (`lowered-same`), or fall to the quotient (`lowered-fell`). The contract asks that the sum fits.
use mathlib.Core.Path.{sym, ◌∙◌}
use native.Mathlib.Omega.{arith}
use Rattle.tightrules.proofs.PassLaws.{lowered_same, lowered_fell}
use Rattle.tight.proofs.pass.lower.Goals as goal

pub overflow_add-room : goal.overflow_add-room
overflow_add-room c = omega (arith, c.requires.2)

pub returns-then-taken-room : goal.returns-then-taken-room
returns-then-taken-room c = lowered_same c.requires.0 c.requires.1 (sym c.if-taken-room.true ∙ c.tighten-taken.ensures)

pub returns : goal.returns
returns c = lowered_fell c.tighten-taken.ensures (λ y. omega arith) c.min.ensures c.saturating_sub.ensures c.saturating_sub-2.ensures c.min-2.ensures
