-- `doors::reasons::why_marked` meets its contract.
use Rattle.why.specs.Why.{why_marked_left}
use Rattle.doors.proofs.reasons.why_marked.Goals as goal

pub returns : goal.returns
unfolding why_marked_left
returns c = c.why_for.ensures
