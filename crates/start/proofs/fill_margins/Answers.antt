use native.Mathlib.Omega.{arith}
use Rattle.numbers.proofs.IntLaws.{plain}
use Rattle.numbers.proofs.ListLaws.{filled_none, filled_more, filled_all}
use Rattle.staterules.specs.States.{kept}
use Rattle.start.proofs.fill_margins.Goals as goal

pub loop-i-init : goal.loop-i-init
loop-i-init c = filled_none _ _ _

pub offset_bounds-starts-i : goal.offset_bounds-starts-i
offset_bounds-starts-i c = omega (arith, c.requires.0)

pub bounds-starts-i : goal.bounds-starts-i
bounds-starts-i c = omega (arith, c.requires.0)

pub offset_bounds-margins-i : goal.offset_bounds-margins-i
offset_bounds-margins-i c = omega (arith, c.loop-i.invariant.as_long, c.requires.1)

pub bounds-margins-i : goal.bounds-margins-i
bounds-margins-i c = omega (arith, c.loop-i.invariant.as_long, c.requires.1)

pub loop-i-preserved : goal.loop-i-preserved
unfolding kept
loop-i-preserved c = filled_more c.loop-i.invariant _ (omega arith) (omega (arith, c.requires.1)) (rw (plain _ c.start-1.given) at c.margin_of.ensures)

pub shape_of-margins : goal.shape_of-margins
shape_of-margins c = c.loop-i.invariant.as_long

pub returns : goal.returns
returns c = filled_all c.loop-i.invariant (omega arith) c.requires.1
