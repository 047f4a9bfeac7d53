-- `types::Share::of` meets its contract.
use mir.Syntax.{w64}
use mir.Facts.{to_z-of_z}
use Rattle.types.specs.Ranges.{share_of}
use Rattle.types.proofs.Share.of.Goals as goal

pub returns-then-raw-lt0 : goal.returns-then-raw-lt0
unfolding share_of
returns-then-raw-lt0 c = simp (simp (to_z-of_z {w = w64} c.ranges.raw) at c.if-raw-lt0.true)

pub returns-else-raw-lt0 : goal.returns-else-raw-lt0
unfolding share_of
returns-else-raw-lt0 c = let raw = to_z-of_z {w = w64} c.ranges.raw in
    simp (raw, simp raw at c.if-raw-lt0.false)
