use native.Mathlib.Omega.{arith}
use Rattle.numbers.proofs.ListLaws.{filled_none, filled_more, filled_all}
use Rattle.start.proofs.fill_froms.Goals as goal

pub loop-i-init : goal.loop-i-init
loop-i-init c = filled_none _ _ _

pub from_of-requires : goal.from_of-requires
from_of-requires c = c.requires.borders_in_range.each _ (omega arith)

pub offset_bounds-x-i : goal.offset_bounds-x-i
offset_bounds-x-i c = omega (arith, c.loop-i.invariant.as_long)

pub bounds-x-i : goal.bounds-x-i
bounds-x-i c = omega (arith, c.loop-i.invariant.as_long)

pub loop-i-preserved : goal.loop-i-preserved
loop-i-preserved c = filled_more c.loop-i.invariant _ (omega arith) (omega (arith, c.requires.x_len)) c.from_of.ensures

pub shape_of-x : goal.shape_of-x
shape_of-x c = c.loop-i.invariant.as_long

pub returns : goal.returns
returns c = filled_all c.loop-i.invariant (omega arith) c.requires.x_len
