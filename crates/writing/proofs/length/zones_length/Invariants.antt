-- `writing::length::zones_length` meets its contract: the sum over the lines (`Summed`), at most that of all lines.
use Prim.Native.Char.{code}
use lib.ListN.{length}
use Rattle.numbers.proofs.BelowLaws.{Summed}
use Rattle.writing.specs.Writing.{position_text_at}
use Rattle.writing.proofs.length.zones_length.Given as goal

abbrev pub invariant-loop-i : goal.invariant-loop-i
invariant-loop-i l = Summed (λ i. length (position_text_at (code "Z") l.z i)) (length l.z) l.i l.sum
