-- `tidy::line::write_line` meets its contract. The invariant: field k begins at p and ends at e, and what is left to write is the fields from k on (`FieldsLeft`).
-- The measure is what is left of the line.
use Prim.Native.Nat.{◌-◌}
use lib.ListN.{length}
use Rattle.tidy.proofs.FieldsLeft.{FieldsLeft}
use Rattle.tidy.proofs.line.write_line.Given as goal

abbrev pub invariant-loop-e : goal.invariant-loop-e
invariant-loop-e l = FieldsLeft l.line l.at l.initial.out l.p l.k l.next l.e l.out

abbrev pub decreases-loop-e : goal.decreases-loop-e
decreases-loop-e l = length l.line - l.p
