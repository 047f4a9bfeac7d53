-- `types::Hubs::none` meets its contract.
use mir.Syntax.{w64}
use mir.Facts.{to_z-of_z}
use Rattle.types.proofs.Hubs.none.Goals as goal

pub returns : goal.returns
returns c = simp (c.same.ensures, c.same-2.ensures, to_z-of_z {w = w64} c.ranges.sending, to_z-of_z {w = w64} c.ranges.receiving)
