-- `states::shifted` meets its contract. The loop's invariant: searching from zone z on finds what the whole search finds. Zone 0 differs as itself.
use mathlib.Core.Bool.{not}
use lib.IntN.{◌-ℤ◌}
use lib.ListN.{length}
use Rattle.numbers.specs.Ints.{same_ℤ}
use Rattle.types.specs.Ranges.{at_ℤ}
use Rattle.numbers.proofs.BelowLaws.{Looked}
use Rattle.states.proofs.shifted.Given as goal

abbrev pub invariant-loop-z : goal.invariant-loop-z
invariant-loop-z l = Looked (length l.fs) (λ z. not (same_ℤ (at_ℤ l.fs z -ℤ at_ℤ l.gs z) (at_ℤ l.fs 0 -ℤ at_ℤ l.gs 0))) l.z
