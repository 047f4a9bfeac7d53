use native.Mathlib.Omega.{arith}
use Rattle.numbers.proofs.IntLaws.{plain}
use Rattle.numbers.proofs.BelowLaws.{looked_none, looked_all, looked_here, looked_more}
use Rattle.staterules.specs.States.{kept}
use Rattle.start.proofs.first_below.Goals as goal

pub loop-i-init : goal.loop-i-init
loop-i-init c = looked_none _ _

pub offset_bounds-starts-i : goal.offset_bounds-starts-i
offset_bounds-starts-i c = omega (arith, c.requires)

pub bounds-starts-i : goal.bounds-starts-i
bounds-starts-i c = omega (arith, c.requires)

pub returns-then-state-strict : goal.returns-then-state-strict
unfolding kept
returns-then-state-strict c = looked_here _ _ _ c.loop-i.invariant (omega arith) (rw (plain _ c.start-1.given) at c.if-state-strict.true)

pub loop-i-preserved : goal.loop-i-preserved
unfolding kept
loop-i-preserved c = looked_more _ _ _ c.loop-i.invariant (omega arith) (rw (plain _ c.start-1.given) at c.if-state-strict.false)

pub returns : goal.returns
returns c = looked_all _ _ _ c.loop-i.invariant (omega arith)
