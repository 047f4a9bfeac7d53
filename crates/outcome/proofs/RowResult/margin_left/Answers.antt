-- `outcome::RowResult::margin_left` meets its contract.
use borrow.Author.Tests.{eq-eqb, ne_eqb}
use mir.Facts.{to_z_pos}
use mir.Syntax.{w64}
use Rattle.outcome.proofs.RowResult.margin_left.Goals as goal

pub overflow_cast-result : goal.overflow_cast-result
overflow_cast-result c = record { sfits = c.requires }

pub returns-then-self-eq0 : goal.returns-then-self-eq0
returns-then-self-eq0 c = rw (eq-eqb _ _ c.if-self-eq0.true) (to_z_pos w64 c.requires)

pub returns-else-self-eq0 : goal.returns-else-self-eq0
returns-else-self-eq0 c = rw (ne_eqb _ _ c.if-self-eq0.false)
