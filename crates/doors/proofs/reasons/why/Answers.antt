-- `doors::reasons::why` meets its contract: for every border, whatever the marks.
use Rattle.why.specs.Why.{reasons_for, why_for, why_left}
use Rattle.doors.proofs.reasons.why.Goals as goal

pub returns : goal.returns
unfolding why_left why_for reasons_for
returns c = c.why_for.ensures
