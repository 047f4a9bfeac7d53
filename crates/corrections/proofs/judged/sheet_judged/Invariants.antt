-- `corrections::judged::sheet_judged` meets its contract. The invariant: what is left of the sheet comes to what the whole comes to (`SheetLeft`).
-- The measure is the bytes left. A turn is the law `left-more`.
use Prim.Native.Nat.{◌-◌}
use lib.ListN.{length}
use Rattle.corrections.proofs.JudgedLaws.{SheetLeft}
use Rattle.corrections.proofs.judged.sheet_judged.Given as goal

abbrev pub invariant-loop-s : goal.invariant-loop-s
invariant-loop-s l = SheetLeft l.kind l.zones l.rows l.sheet l.s l.least l.number

abbrev pub decreases-loop-s : goal.decreases-loop-s
decreases-loop-s l = length l.sheet - l.s
