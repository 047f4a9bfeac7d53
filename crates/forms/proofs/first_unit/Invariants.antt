-- `forms::first_unit` is safe and ends. The invariant: the unit is above 0. The measure is what n is above it.
use Rattle.std.proofs.Common.{◌-◌, ◌<◌}
use Rattle.forms.proofs.first_unit.Given as goal

abbrev pub invariant-loop-unit : goal.invariant-loop-unit
invariant-loop-unit l = 0 < l.unit

abbrev pub decreases-loop-unit : goal.decreases-loop-unit
decreases-loop-unit l = l.n - l.unit
