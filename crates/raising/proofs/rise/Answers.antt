use native.Mathlib.Omega.{arith}
use Rattle.numbers.specs.Below.{at}
use Rattle.raising.proofs.RiseLaws.{rising_none, gained_fits, x_fits, rising_more, rising_all}
use Rattle.raising.proofs.rise.Goals as goal

pub loop-b-init : goal.loop-b-init
loop-b-init c = rising_none _ _ _ _ _ _

pub overflow_add-gained : goal.overflow_add-gained
overflow_add-gained c = omega (arith, gained_fits c.requires c.loop-b.invariant (omega arith) (omega (arith, c.slice_known-in-loop-b-1.given (at c.args.rising.now c.loop-b.b-index))))

pub overflow_add-x : goal.overflow_add-x
overflow_add-x c = omega (arith, x_fits c.requires c.loop-b.invariant (omega arith) (omega (arith, c.slice_known-in-loop-b-2-1.given (at c.args.rising.now c.loop-b.b-index))))

pub loop-b-preserved : goal.loop-b-preserved
loop-b-preserved c = rising_more c.requires c.loop-b.invariant (omega arith) _ c.later.ensures

pub returns : goal.returns
returns c = rising_all c.requires c.loop-b.invariant (omega arith)
