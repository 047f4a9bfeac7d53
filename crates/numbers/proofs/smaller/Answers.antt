-- `numbers::smaller` meets its contract.
use mir.Syntax.{w64}
use mathlib.Core.Path.{◌∙◌}
use mir.Facts.{to_z-of_z}
use Rattle.numbers.proofs.IntLaws.{min_left, min_right}
use Rattle.numbers.proofs.smaller.Goals as goal

pub returns-then-a-b : goal.returns-then-a-b
returns-then-a-b c = to_z-of_z {w = w64} c.ranges.a ∙ min_left _ _ (simp (to_z-of_z, c.ranges.a, c.ranges.b) at c.if-a-b.true)

pub returns-else-a-b : goal.returns-else-a-b
returns-else-a-b c = to_z-of_z {w = w64} c.ranges.b ∙ min_right _ _ (simp (to_z-of_z, c.ranges.a, c.ranges.b) at c.if-a-b.false)
