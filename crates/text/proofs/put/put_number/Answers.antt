use mathlib.Core.Path.{ap}
use Prim.Native.Nat.{ℕ, ◌+◌}
use native.Mathlib.Omega.{arith}
use lib.ListN.{length-set}
use Rattle.text.proofs.DigitLaws.{digits_put_none, digits_put_some, digits_put_more, digits_put_all}
use Rattle.text.proofs.put.put_number.Goals as goal

pub overflow_add-next : goal.overflow_add-next
overflow_add-next c = omega (arith, c.digit_count.ensures)

pub loop-left-init : goal.loop-left-init
loop-left-init c = digits_put_none _ _ _ _ (ap (λ (k : ℕ). c.args.at + k) c.digit_count.ensures) c.requires

pub overflow_sub-i : goal.overflow_sub-i
overflow_sub-i c = omega (arith, digits_put_some c.loop-left.invariant)

pub bounds-out-i : goal.bounds-out-i
bounds-out-i c = omega (arith, digits_put_some c.loop-left.invariant, c.loop-left.invariant.place, c.loop-left.invariant.room)

pub loop-left-preserved : goal.loop-left-preserved
loop-left-preserved c = digits_put_more c.loop-left.invariant _ c.digit.ensures (omega arith)

pub bounds-out-at : goal.bounds-out-at
bounds-out-at c = omega (arith, digits_put_some c.loop-left.invariant, c.loop-left.invariant.place, c.loop-left.invariant.room)

pub shape_of-out : goal.shape_of-out
shape_of-out c = simp length-set c.loop-left.invariant.kept

pub returns : goal.returns
returns c = digits_put_all c.loop-left.invariant _ _ c.digit-2.ensures (omega arith) (ap (λ (k : ℕ). c.args.at + k) c.digit_count.ensures)
