-- `result::records::lines_length` meets its contract. The invariant: the lengths of the first i lines are added up (`Measured`), whatever their letter. The measure is the records that are left.
use Prim.Native.Nat.{ℕ}
use lib.ListN.{length}
use Rattle.types.specs.LineColumns.{columns_of}
use Rattle.text.proofs.MeasureLaws.{Measured}
use Rattle.result.specs.Records.{record_line, result_line_most}
use Rattle.result.proofs.records.lines_length.Given as goal

abbrev pub invariant-loop-i : goal.invariant-loop-i
invariant-loop-i l = (letter : ℕ) → Measured (record_line letter (columns_of l.columns) l.records) result_line_most (length l.records) l.i l.sum
