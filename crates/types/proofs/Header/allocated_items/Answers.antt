-- `types::Header::allocated_items` meets its contract.
use borrow.Author.Tests.{eq-eqb, ne_eqb}
use Rattle.types.specs.Ranges.{allocated_items}
use Rattle.types.proofs.Header.allocated_items.Goals as goal

pub returns-then-self-eq-INTRADAY : goal.returns-then-self-eq-INTRADAY
unfolding allocated_items
returns-then-self-eq-INTRADAY c = rw (eq-eqb _ _ c.if-self-eq-INTRADAY.true)

pub returns-else-self-eq-INTRADAY : goal.returns-else-self-eq-INTRADAY
unfolding allocated_items
returns-else-self-eq-INTRADAY c = rw (ne_eqb _ _ c.if-self-eq-INTRADAY.false)
