-- `reading::into::balance_byte` meets its contract.
use borrow.Author.Tests.{le-leb, lt-leb}
use Rattle.reading.proofs.into.balance_byte.Goals as goal

pub returns-then-zones-le10 : goal.returns-then-zones-le10
returns-then-zones-le10 c = rw (le-leb _ _ c.if-zones-le10.true)

pub returns-else-zones-le10 : goal.returns-else-zones-le10
returns-else-zones-le10 c = rw (lt-leb _ _ c.if-zones-le10.false)
