-- `table::first_border_out` meets its contract: no border before i is out of range.
use mathlib.Core.Bool.{not}
use mathlib.Core.List.{[]}
use lib.ListN.{length, get_or}
use Rattle.numbers.proofs.BelowLaws.{Looked}
use Rattle.types.specs.Ranges.{border_fits}
use Rattle.table.proofs.first_border_out.Given as goal

abbrev pub invariant-loop-i : goal.invariant-loop-i
invariant-loop-i l = Looked (length l.b) (λ i. not (border_fits l.zones (get_or l.b i []))) l.i
