-- `result::records::put_lines` meets its contract. The invariant: the first i lines are written. The measure is the records that are left.
use Prim.Native.Nat.{◌≤◌}
use lib.ListN.{length}
use Rattle.types.specs.LineColumns.{columns_of}
use Rattle.text.specs.Put.{Put}
use Rattle.text.specs.Written.{lines_text}
use Rattle.result.specs.Records.{record_line}
use Rattle.result.proofs.records.put_lines.Given as goal

abbrev pub invariant-loop-i : goal.invariant-loop-i
invariant-loop-i l = (l.i ≤ length l.records) × Put (lines_text l.i 0 (record_line l.letter (columns_of l.columns) l.records)) l.at l.initial.out l.next l.out
