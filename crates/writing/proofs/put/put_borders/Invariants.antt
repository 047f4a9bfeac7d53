-- `writing::put::put_borders` meets its contract: the first i lines are written.
use Prim.Native.Nat.{◌≤◌}
use lib.ListN.{length}
use Rattle.writing.specs.Writing.{border_text_at}
use Rattle.text.specs.Written.{lines_text}
use Rattle.text.specs.Put.{Put}
use Rattle.writing.proofs.put.put_borders.Given as goal

abbrev pub invariant-loop-i : goal.invariant-loop-i
invariant-loop-i l = (l.i ≤ length l.b) × Put (lines_text l.i 0 (border_text_at l.b)) l.at l.initial.out l.next l.out
