-- `partstext::put_parts` meets its contract. The invariant: the first i lines are written. The measure is the records that are left.
use Prim.Native.Nat.{◌≤◌}
use lib.ListN.{length}
use Rattle.text.specs.Put.{Put}
use Rattle.text.specs.Written.{lines_text}
use Rattle.partstext.specs.PartsText.{parts_line_at}
use Rattle.partstext.proofs.put_parts.Given as goal

abbrev pub invariant-loop-i : goal.invariant-loop-i
invariant-loop-i l = (l.i ≤ length l.records) × Put (lines_text l.i 0 (parts_line_at l.records)) 0 l.initial.out l.next l.out
