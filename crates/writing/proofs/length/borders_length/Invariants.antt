-- `writing::length::borders_length` meets its contract: the sum over the lines (`Summed`), at most that of all lines.
use lib.ListN.{length}
use Rattle.numbers.proofs.BelowLaws.{Summed}
use Rattle.writing.specs.Writing.{border_text_at}
use Rattle.writing.proofs.length.borders_length.Given as goal

abbrev pub invariant-loop-i : goal.invariant-loop-i
invariant-loop-i l = Summed (λ i. length (border_text_at l.b i)) (length l.b) l.i l.sum
