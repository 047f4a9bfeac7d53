-- `tight::bits` meets its contract. The invariant: `half` is v halved `count` times. The measure is `half`.
use Rattle.tightrules.proofs.BitsLaws.{Halved}
use Rattle.tight.proofs.bits.Given as goal

abbrev pub invariant-loop-half : goal.invariant-loop-half
invariant-loop-half l = Halved l.v l.half l.count

abbrev pub decreases-loop-half : goal.decreases-loop-half
decreases-loop-half l = l.half
