-- `meanings::line_begin` meets its contract. The invariant: the line of the turn begins there. The measure is the turns left.
use mathlib.Core.Path.{◌≡◌}
use Prim.Native.Nat.{◌-◌, ◌≤◌}
use lib.ListN.{length}
use Rattle.meanings.specs.Meanings.{line_begin}
use Rattle.meanings.proofs.line_begin.Given as goal

abbrev pub invariant-loop : goal.invariant-loop
invariant-loop l = record { high : l.counter ≤ l.k; here : l.at ≡ line_begin l.list l.counter; within : l.at ≤ length l.list }

abbrev pub decreases-loop : goal.decreases-loop
decreases-loop l = l.k - l.counter
