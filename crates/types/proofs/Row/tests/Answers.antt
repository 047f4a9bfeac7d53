-- `types::Row::tests` meets its contract: each test is the definition's, in its order.
use Rattle.numbers.proofs.IntLaws.{plain}
use Rattle.types.proofs.Row.tests.Goals as goal

pub returns : goal.returns
returns c = simp (
  c.inside.ensures,
  c.inside-2.ensures,
  c.inside-3.ensures,
  c.inside-4.ensures,
  c.inside-5.ensures,
  c.inside-6.ensures,
  c.inside-7.ensures,
  plain,
  c.fmax-1.given,
  c.frm-1.given,
  c.fref-1.given,
  c.f0all-1.given,
  c.share-1.given,
  c.cva-1.given,
  c.iva-1.given,
)
