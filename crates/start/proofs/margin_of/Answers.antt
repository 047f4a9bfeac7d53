-- `start::margin_of` meets its contract.
use borrow.Author.Tests.{eq-eqb, ne_eqb}
use mir.Facts.{to_z-of_z}
use Rattle.start.proofs.margin_of.Goals as goal

pub returns-then-state-eq0 : goal.returns-then-state-eq0
returns-then-state-eq0 c = rw (eq-eqb _ _ c.if-state-eq0.true) (simp (to_z-of_z, c.ranges.start) at c.positive.ensures)

pub returns-else-state-eq0 : goal.returns-else-state-eq0
returns-else-state-eq0 c = rw (ne_eqb _ _ c.if-state-eq0.false)
