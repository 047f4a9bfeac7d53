-- `layout::length::rows_length` meets its contract: the sum over the lines (`Summed`), at most that of all lines.
use lib.ListN.{length}
use Rattle.numbers.proofs.BelowLaws.{Summed}
use Rattle.layout.specs.Layout.{row_text_in}
use Rattle.layout.proofs.length.rows_length.Given as goal

abbrev pub invariant-loop-i : goal.invariant-loop-i
invariant-loop-i l = Summed (λ i. length (row_text_in l.kind l.zones l.c l.f i)) (length l.c) l.i l.sum
