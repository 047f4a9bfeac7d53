-- `sections::borders::borders_read` meets its contract. The invariant: the first i items are what the lines passed hold (`Stored`).
-- A turn is the law `stored_more`.
use lib.ListN.{length}
use Rattle.lines.specs.Lines.{border_line}
use Rattle.sections.proofs.StoredLaws.{Stored}
use Rattle.sections.proofs.borders.borders_read.Given as goal

abbrev pub invariant-loop-i : goal.invariant-loop-i
invariant-loop-i l = Stored (border_line l.zones) l.first l.text l.at l.initial.b (length l.initial.b) l.b l.i l.p
