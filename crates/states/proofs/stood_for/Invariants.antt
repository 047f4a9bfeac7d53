-- `states::stood_for` meets its contract. The loop's invariant: searching from row j on finds what the whole search finds.
use mathlib.Core.Bool.{◌&&◌}
use Rattle.numbers.proofs.BelowLaws.{Looked}
use Rattle.tablerules.specs.Table.{stretch}
use Rattle.staterules.specs.States.{below, shifted}
use Rattle.states.proofs.stood_for.Given as goal

abbrev pub invariant-loop-j : goal.invariant-loop-j
invariant-loop-j l = Looked l.h.rows (λ j. below l.rams j l.i && shifted (stretch l.h.zones l.f j) (stretch l.h.zones l.f l.i)) l.j
