-- `partstext::text_length` meets its contract. The invariant: the lengths of the first i lines are added up (`Measured`). The measure is the records that are left.
use lib.ListN.{length}
use Rattle.text.proofs.MeasureLaws.{Measured}
use Rattle.partstext.specs.PartsText.{parts_line_at, parts_line_most}
use Rattle.partstext.proofs.text_length.Given as goal

abbrev pub invariant-loop-i : goal.invariant-loop-i
invariant-loop-i l = Measured (parts_line_at l.records) parts_line_most (length l.records) l.i l.sum
