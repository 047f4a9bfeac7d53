-- `doors::bound` meets its contract: no marks are looked at.
use mathlib.Core.Path.{◌∙◌}
use Rattle.boundrules.proofs.BoundLaws.{none_looked_at}
use Rattle.doors.proofs.bound.Goals as goal

pub returns : goal.returns
returns c = c.bound_for.ensures ∙ none_looked_at _ _
