-- `tight::pass::most` meets its contract. The invariant: `most` is the largest of the first items.
use lib.ListN.{length}
use Rattle.numbers.specs.Below.{at}
use Rattle.tightrules.proofs.PassLaws.{UpTo}
use Rattle.tight.proofs.pass.most.Given as goal

abbrev pub invariant-loop-item : goal.invariant-loop-item
invariant-loop-item l = UpTo (at l.list) (length l.list) l.item-index l.most
