-- `dayfront::name` meets its contract. The invariant: so many hours stand at the front of the day, which keeps its number of hours.
use Rattle.std.proofs.Common.{◌≡◌, ◌≤◌, length}
use Rattle.dayfront.proofs.name.Given as goal

abbrev pub invariant-loop-i : goal.invariant-loop-i
invariant-loop-i l = (l.named ≤ length l.day) × (length l.day ≡ length l.initial.day)
