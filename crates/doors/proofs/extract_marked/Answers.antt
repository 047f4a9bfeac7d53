-- `doors::extract_marked` meets its contract.
use Rattle.extractrules.specs.Extraction.{extract_marked_left}
use Rattle.doors.proofs.extract_marked.Goals as goal

pub returns : goal.returns
unfolding extract_marked_left
returns c = c.extract_for.ensures
