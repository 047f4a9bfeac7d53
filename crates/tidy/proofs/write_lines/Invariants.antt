-- `tidy::write_lines` meets its contract. The invariant: what is left to write is the lines from p on, and `kept` is where the last one that stays ends so far
-- (`LinesLeft`). The measure is what is left of the text.
use Prim.Native.Nat.{◌-◌}
use lib.ListN.{length}
use Rattle.tidy.proofs.LinesLeft.{LinesLeft}
use Rattle.tidy.proofs.write_lines.Given as goal

abbrev pub invariant-loop-p : goal.invariant-loop-p
invariant-loop-p l = LinesLeft l.text l.initial.out l.p l.at l.kept l.out

abbrev pub decreases-loop-p : goal.decreases-loop-p
decreases-loop-p l = length l.text - l.p
