-- `types::Border::tests` meets its contract: each test is the definition's, in its order.
use Rattle.numbers.proofs.IntLaws.{plain}
use Rattle.types.proofs.Border.tests.Goals as goal

pub returns : goal.returns
returns c = simp (
  c.none-none.ensures,
  c.exists.ensures,
  c.exists-2.ensures,
  c.same.ensures,
  c.inside.ensures,
  c.exists-3.ensures,
  c.exists-4.ensures,
  c.same-2.ensures,
  plain,
  c.from-1.given,
  c.to-1.given,
  c.lta-1.given,
  c.sending-1.given,
  c.receiving-1.given,
)
