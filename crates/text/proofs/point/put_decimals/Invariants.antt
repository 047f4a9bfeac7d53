-- `text::point::put_decimals` meets its contract. The invariant: what is written and the digits left make all of them (`DecimalsPut`). A turn is the law `decimals-put-more`.
use Rattle.text.proofs.PointLaws.{DecimalsPut}
use Rattle.text.proofs.point.put_decimals.Given as goal

abbrev pub invariant-loop-after : goal.invariant-loop-after
invariant-loop-after l = DecimalsPut l.k l.n l.at l.initial.out l.out l.next l.after
