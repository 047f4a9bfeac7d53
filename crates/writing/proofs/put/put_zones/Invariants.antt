-- `writing::put::put_zones` meets its contract: the first i lines are written.
use Prim.Native.Nat.{◌≤◌}
use lib.ListN.{length}
use Rattle.writing.specs.Writing.{position_text_at}
use Rattle.text.specs.Written.{lines_text}
use Rattle.text.specs.Put.{Put}
use Rattle.writing.proofs.put.put_zones.Given as goal

abbrev pub invariant-loop-i : goal.invariant-loop-i
invariant-loop-i l = (l.i ≤ length l.z) × Put (lines_text l.i 0 (position_text_at l.letter l.z)) l.at l.initial.out l.next l.out
