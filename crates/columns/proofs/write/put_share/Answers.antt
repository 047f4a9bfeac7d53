-- `columns::write::put_share` meets its contract.
use mathlib.Core.Path.{ap}
use native.Mathlib.Omega.{arith}
use lib.ListN.{length}
use mir.Facts.{to_z-of_z}
use Rattle.columns.proofs.ColumnPut.{share_dash, share_number}
use Rattle.columns.proofs.write.put_share.Goals as goal

pub put_byte-requires : goal.put_byte-requires
put_byte-requires c = omega (arith, c.requires, ap length (share_dash c.args.z (simp (to_z-of_z, c.ranges.z) at c.if-z-lt0.true)))

pub returns-then-z-lt0 : goal.returns-then-z-lt0
returns-then-z-lt0 c = rw (share_dash c.args.z (simp (to_z-of_z, c.ranges.z) at c.if-z-lt0.true)) c.put_byte.ensures

pub put_signed-requires : goal.put_signed-requires
put_signed-requires c = simp (to_z-of_z, c.ranges.z) (omega (arith, c.requires, ap length (share_number c.args.z (simp (to_z-of_z, c.ranges.z) at c.if-z-lt0.false))))

pub returns : goal.returns
returns c = rw (share_number c.args.z (simp (to_z-of_z, c.ranges.z) at c.if-z-lt0.false)) (simp (to_z-of_z, c.ranges.z) at c.put_signed.ensures)
