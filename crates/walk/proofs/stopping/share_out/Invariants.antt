-- `walk::stopping::share_out` meets its contract: the loop fills the shares where n stood (`Filled`), and a row's n still stands when its turn comes.
use Prim.Native.Nat.{◌/◌}
use lib.ListN.{length}
use Rattle.numbers.specs.Below.{at}
use Rattle.numbers.proofs.ListLaws.{Filled}
use Rattle.walk.proofs.stopping.share_out.Given as goal

abbrev pub invariant-loop-i : goal.invariant-loop-i
invariant-loop-i l = Filled (λ i. at l.margins i / at l.initial.ns i) (length l.margins) l.initial.ns l.ns l.i
