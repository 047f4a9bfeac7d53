-- `tidyfields::trimmed` meets its contract. The invariants: what stays of the rest is what stays of the field, first at its end, then at its begin too.
use Rattle.std.proofs.Common.{◌≡◌, length}
use Rattle.tidyrules.specs.Fields.{unled, untrailed, trimmed}
use Rattle.tidyfields.proofs.trimmed.Given as goal

abbrev pub invariant-loop-rest : goal.invariant-loop-rest
invariant-loop-rest l = untrailed l.last l.rest ≡ untrailed l.last l.f

abbrev pub decreases-loop-rest : goal.decreases-loop-rest
decreases-loop-rest l = length l.rest

abbrev pub invariant-loop-rest-2 : goal.invariant-loop-rest-2
invariant-loop-rest-2 l = unled l.rest ≡ trimmed l.last l.f

abbrev pub decreases-loop-rest-2 : goal.decreases-loop-rest-2
decreases-loop-rest-2 l = length l.rest
