-- `layout::put::put_rows` meets its contract: the first i lines are written.
use Prim.Native.Nat.{◌≤◌}
use lib.ListN.{length}
use Rattle.layout.specs.Layout.{row_text_in}
use Rattle.text.specs.Written.{lines_text}
use Rattle.text.specs.Put.{Put}
use Rattle.layout.proofs.put.put_rows.Given as goal

abbrev pub invariant-loop-i : goal.invariant-loop-i
invariant-loop-i l = (l.i ≤ length l.c) × Put (lines_text l.i 0 (row_text_in l.kind l.zones l.c l.f)) l.at l.initial.out l.next l.out
