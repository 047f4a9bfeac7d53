-- `table::first_twice` meets its contract: no border before i was given twice.
use lib.ListN.{length}
use Rattle.numbers.proofs.BelowLaws.{Looked}
use Rattle.tablerules.specs.Table.{twice}
use Rattle.table.proofs.first_twice.Given as goal

abbrev pub invariant-loop-i : goal.invariant-loop-i
invariant-loop-i l = Looked (length l.b) (twice l.b) l.i
