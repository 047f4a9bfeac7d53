-- `tight::steps` meets its contract. The invariant: u was cut `count` times, and `rest` is left (`Stepped`). The measure is `rest`.
use Rattle.tightrules.proofs.StepLaws.{Stepped}
use Rattle.tight.proofs.steps.Given as goal

abbrev pub invariant-loop-rest : goal.invariant-loop-rest
invariant-loop-rest l = Stepped l.n l.u l.rest l.count

abbrev pub decreases-loop-rest : goal.decreases-loop-rest
decreases-loop-rest l = l.rest
