-- `marks::choose` meets its contract. The invariant: the first b flags are there.
use lib.ListN.{length}
use Rattle.numbers.proofs.ListLaws.{Filled}
use Rattle.marks.specs.Marks.{flag_of, every, listed}
use Rattle.marks.proofs.choose.Given as goal

abbrev pub invariant-loop-b : goal.invariant-loop-b
invariant-loop-b l = Filled (flag_of (every l.marks) (listed l.marks)) (length l.initial.flags) l.initial.flags l.flags l.b
