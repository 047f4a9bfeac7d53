-- `blame::range::field_first` meets its contract. The invariant: the field begins where the line does from place i on, past `left` more of the bytes that
-- part fields (`Passing`). The measure is the line's length less i. A turn is the law `passing-more`.
use Rattle.blame.proofs.RangeLaws.{Passing}
use Rattle.blame.proofs.range.field_first.Given as goal

abbrev pub invariant-loop-i : goal.invariant-loop-i
invariant-loop-i l = Passing l.sep l.k l.line l.left l.i
