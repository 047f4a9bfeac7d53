-- `types::Zone::tests` meets its contract.
use mir.Syntax.{w64}
use mir.Facts.{to_z-of_z}
use Rattle.types.proofs.Zone.tests.Goals as goal

pub returns : goal.returns
returns c = simp (c.inside.ensures, to_z-of_z {w = w64} c.ranges.raw)
