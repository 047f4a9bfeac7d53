-- `text::point::shifted` meets its contract. The invariant: what is left is n without its last j digits; a turn is `shift-more`.
use mathlib.Core.Path.{◌≡◌}
use Prim.Native.Nat.{◌/◌, ◌^◌, ◌≤◌}
use Rattle.text.proofs.point.shifted.Given as goal

abbrev pub invariant-loop : goal.invariant-loop
invariant-loop l = record { is : l.rest ≡ l.n / 10 ^ l.counter; high : l.counter ≤ l.k }
