-- `types::Header::tests` meets its contract: each test is the definition's, in its order.
use Rattle.numbers.proofs.IntLaws.{plain}
use Rattle.types.proofs.Header.tests.Goals as goal

pub returns : goal.returns
returns c = simp (c.inside.ensures, plain c.args.self.share c.struct_told-1.given.1.1.1.0.1)
