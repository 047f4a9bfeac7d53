-- `doors::extract` meets its contract: for every border, whatever the marks.
use Rattle.extractrules.specs.Extraction.{outcome_for, extract_for, extract_left}
use Rattle.doors.proofs.extract.Goals as goal

pub returns : goal.returns
unfolding extract_left extract_for outcome_for
returns c = c.extract_for.ensures
