-- `sections::zones::zones_read` meets its contract. The invariant: the first i items are what the lines passed hold (`Stored`).
-- A turn is the law `stored_more`.
use lib.ListN.{length}
use Rattle.lines.specs.Lines.{position_line}
use Rattle.sections.proofs.StoredLaws.{Stored}
use Rattle.sections.proofs.zones.zones_read.Given as goal

abbrev pub invariant-loop-i : goal.invariant-loop-i
invariant-loop-i l = Stored (position_line l.letter) l.first l.text l.at l.initial.z (length l.initial.z) l.z l.i l.p
