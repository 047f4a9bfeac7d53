-- `table::first_zone_out` meets its contract: no zone before i is out of range.
use mathlib.Core.Bool.{not}
use lib.ListN.{length}
use Rattle.numbers.proofs.BelowLaws.{Looked}
use Rattle.types.specs.Ranges.{at_ℤ, zone_fits}
use Rattle.table.proofs.first_zone_out.Given as goal

abbrev pub invariant-loop-i : goal.invariant-loop-i
invariant-loop-i l = Looked (length l.z) (λ i. not (zone_fits (at_ℤ l.z i))) l.i
