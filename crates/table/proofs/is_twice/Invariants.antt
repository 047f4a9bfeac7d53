-- `table::is_twice` meets its contract. The invariant: no border before e has the same ends. A turn is `looked-more`.
use Prim.Native.Nat.{◌-◌}
use mathlib.Core.List.{[]}
use lib.ListN.{get_or}
use Rattle.numbers.proofs.BelowLaws.{Looked}
use Rattle.tablerules.specs.Table.{same_ends}
use Rattle.table.proofs.is_twice.Given as goal

abbrev pub invariant-loop-e : goal.invariant-loop-e
invariant-loop-e l = Looked l.i (λ e. same_ends (get_or l.b e []) (get_or l.b l.i [])) l.e

abbrev pub decreases-loop-e : goal.decreases-loop-e
decreases-loop-e l = l.i - l.e
