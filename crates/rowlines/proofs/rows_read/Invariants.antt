-- `rowlines::rows_read` meets its contract. The invariant: the first i rows are in their places, each with its stretch of the factors (`RowsStored`), and the sheet's
-- lines before its place are of earlier rows (`Walked`). The measure is the number of rows left. A turn is the laws `rows-stored-more` and `walked_more`.
use lib.ListN.{length}
use Rattle.corrections.specs.Corrections.{handed_by}
use Rattle.corrections.proofs.SheetAlongside.{Walked}
use Rattle.rowlines.specs.Rows.{corrected_by}
use Rattle.rowlines.proofs.RowStored.{RowsStored}
use Rattle.rowlines.proofs.rows_read.Given as goal

abbrev pub invariant-loop-i : goal.invariant-loop-i
invariant-loop-i l = record {
  stored : RowsStored (corrected_by l.kind l.zones (handed_by l.sheet)) l.first l.text l.at l.zones l.initial.c l.initial.f l.c l.f l.i l.p;
  walked : Walked l.by l.zones (length l.initial.c) l.sheet l.s l.i;
}
