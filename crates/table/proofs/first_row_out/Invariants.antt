-- `table::first_row_out` meets its contract: no row before i is out of range.
use mathlib.Core.Bool.{not}
use mathlib.Core.List.{[]}
use lib.ListN.{length, get_or}
use Rattle.numbers.proofs.BelowLaws.{Looked}
use Rattle.tablerules.specs.Table.{row_good, stretch}
use Rattle.table.proofs.first_row_out.Given as goal

abbrev pub invariant-loop-i : goal.invariant-loop-i
invariant-loop-i l = Looked (length l.c) (λ i. not (row_good (get_or l.c i []) (stretch l.zones l.f i))) l.i
