-- `cornertext::put_corners` meets its contract. The loop's invariant: the first k lines are written. The measure is the corners that are left.
use Prim.Native.Nat.{◌≤◌}
use lib.ListN.{length}
use Rattle.text.specs.Put.{Put}
use Rattle.text.specs.Written.{lines_text}
use Rattle.cornertext.specs.CornerText.{corner_line_at}
use Rattle.cornertext.proofs.put_corners.Given as goal

abbrev pub invariant-loop-k : goal.invariant-loop-k
invariant-loop-k l = (l.k ≤ length l.flows) × Put (lines_text l.k 0 (corner_line_at l.row l.flows)) 0 l.initial.out l.next l.out
