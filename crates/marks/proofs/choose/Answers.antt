use mathlib.Core.Path.{refl}
use native.Mathlib.Omega.{arith}
use Rattle.numbers.proofs.ListLaws.{filled_none, filled_more, filled_all}
use Rattle.marks.proofs.choose.Goals as goal

pub loop-b-init : goal.loop-b-init
loop-b-init c = filled_none _ _ _

pub offset_bounds-flags-b : goal.offset_bounds-flags-b
offset_bounds-flags-b c = omega (arith, c.loop-b.invariant.as_long)

pub bounds-flags-b : goal.bounds-flags-b
bounds-flags-b c = omega (arith, c.loop-b.invariant.as_long)

pub loop-b-preserved : goal.loop-b-preserved
loop-b-preserved c = filled_more c.loop-b.invariant _ (omega arith) (omega arith) c.flag.ensures

pub shape_of-flags : goal.shape_of-flags
shape_of-flags c = c.loop-b.invariant.as_long

pub returns : goal.returns
returns c = filled_all c.loop-b.invariant (omega arith) refl
