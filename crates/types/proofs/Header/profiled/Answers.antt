-- `types::Header::profiled` meets its contract.
use Rattle.numbers.proofs.IntLaws.{plain}
use Rattle.types.proofs.Header.profiled.Goals as goal

pub returns-then-intraday : goal.returns-then-intraday
returns-then-intraday c = rw c.if-intraday.true (simp (plain c.args.self.share c.struct_told-1.given.1.1.1.0.1))

pub returns-else-intraday : goal.returns-else-intraday
returns-else-intraday c = rw c.if-intraday.false (simp (plain c.args.self.share c.struct_told-1.given.1.1.1.0.1))
