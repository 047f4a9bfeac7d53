-- `holding::margin_left` meets its contract.
use borrow.Author.Tests.{eq-eqb, ne_eqb}
use mir.Facts.{to_z_pos}
use mir.Syntax.{w64}
use Rattle.holding.proofs.margin_left.Goals as goal

pub returns-then-state-eq0 : goal.returns-then-state-eq0
returns-then-state-eq0 c = rw (eq-eqb _ _ c.if-state-eq0.true) (to_z_pos w64 c.requires)

pub returns-else-state-eq0 : goal.returns-else-state-eq0
returns-else-state-eq0 c = rw (ne_eqb _ _ c.if-state-eq0.false)
