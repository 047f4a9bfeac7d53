-- `parts::row::start_from` meets its contract: each profile has its own.
use mir.Syntax.{w64}
use mathlib.Core.Path.{◌∙◌}
use borrow.Author.Rules.{sfits_of}
use mir.Facts.{to_z-of_z}
use Rattle.partrules.specs.Parts.{start_from}
use Rattle.parts.proofs.row.start_from.Goals as goal

pub returns-then-intraday : goal.returns-then-intraday
unfolding start_from
returns-then-intraday c = rw c.if-intraday.true (to_z-of_z {w = w64} (sfits_of c.larger.type_inv) ∙ (simp (to_z-of_z, c.ranges.margin) at c.larger.ensures))

pub returns : goal.returns
unfolding start_from
returns c = rw c.if-intraday.false (to_z-of_z {w = w64} c.ranges.margin)
