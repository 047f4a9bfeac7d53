-- `numbers::same` meets its contract: two numbers are the same where their bits are.
use Rattle.numbers.proofs.IntLaws.{same_test}
use Rattle.numbers.proofs.same.Goals as goal

pub returns : goal.returns
returns c = same_test c.ranges.a c.ranges.b
