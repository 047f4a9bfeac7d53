-- `columns::write::share_length` meets its contract.
use mathlib.Core.Path.{sym, ap, ◌∙◌}
use lib.ListN.{length}
use mir.Facts.{to_z-of_z}
use Rattle.columns.proofs.ColumnPut.{share_dash, share_number}
use Rattle.columns.proofs.write.share_length.Goals as goal

pub returns-then-z-lt0 : goal.returns-then-z-lt0
returns-then-z-lt0 c = sym (ap length (share_dash c.args.z (simp (to_z-of_z, c.ranges.z) at c.if-z-lt0.true)))

pub returns : goal.returns
returns c = simp (to_z-of_z, c.ranges.z) at c.signed_length.ensures ∙ sym (ap length (share_number c.args.z (simp (to_z-of_z, c.ranges.z) at c.if-z-lt0.false)))
