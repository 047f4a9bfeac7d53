-- `margin::start` meets its contract: each profile has its own.
use mir.Syntax.{w64}
use mathlib.Core.Path.{◌∙◌}
use borrow.Author.Rules.{sfits_of}
use mir.Facts.{to_z-of_z}
use Rattle.margin.proofs.start.Goals as goal

pub less_flow-requires : goal.less_flow-requires
less_flow-requires c = simp (to_z-of_z, c.ranges.ram) record { within = c.requires.within; factors_in_range = c.requires.factors_in_range; nets_in_range = c.requires.nets_in_range }

pub less_s-requires : goal.less_s-requires
less_s-requires c = simp (to_z-of_z, c.ranges.ram) record { within = c.requires.within; s_le_s_most = c.requires.s_le_s_most }

pub returns-then-intraday : goal.returns-then-intraday
returns-then-intraday c = rw c.if-intraday.true (to_z-of_z {w = w64} (sfits_of c.less_flow.type_inv) ∙ (simp (to_z-of_z, c.ranges.ram) at c.less_flow.ensures))

pub returns-else-intraday : goal.returns-else-intraday
returns-else-intraday c = rw c.if-intraday.false (to_z-of_z {w = w64} (sfits_of c.less_s.type_inv) ∙ (simp (to_z-of_z, c.ranges.ram) at c.less_s.ensures))
