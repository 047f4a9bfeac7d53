-- `cornertext::put_corner` meets its contract: the corner's number goes through an i64 and comes back.
use mathlib.Core.Path.{refl}
use native.Mathlib.Omega.{arith}
use mir.Facts.{to_z-of_z}
use Rattle.text.proofs.FieldLaws.{read_back}
use Rattle.cornertext.proofs.put_corner.Goals as goal

pub put_line-requires : goal.put_line-requires
put_line-requires c = simp (to_z-of_z, c.ranges.flow, read_back c.args.corner (omega (arith, c.requires.0))) (refl, c.requires.1)

pub returns : goal.returns
returns c = simp (to_z-of_z, c.ranges.flow, read_back c.args.corner (omega (arith, c.requires.0))) at c.put_line.ensures
