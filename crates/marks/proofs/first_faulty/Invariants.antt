-- `marks::first_faulty` meets its contract: no mark before k is faulty.
use lib.ListN.{length}
use Rattle.numbers.proofs.BelowLaws.{Looked}
use Rattle.marks.specs.Marks.{faulty_mark}
use Rattle.marks.proofs.first_faulty.Given as goal

abbrev pub invariant-loop-k : goal.invariant-loop-k
invariant-loop-k l = Looked (length l.marks) (faulty_mark l.borders l.marks) l.k
