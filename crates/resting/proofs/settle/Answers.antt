use native.Mathlib.Omega.{arith}
use Rattle.numbers.proofs.ListLaws.{filled_none, filled_all}
use Rattle.resting.proofs.WalkLaws.{settle_loadable, settle_loss, settle_more}
use Rattle.resting.proofs.settle.Goals as goal

pub loop-i-init : goal.loop-i-init
loop-i-init c = filled_none _ _ _

pub row_loads-requires : goal.row_loads-requires
row_loads-requires c = record { row_in_bounds = omega arith; loadable = settle_loadable c.requires c.loop-i.invariant (omega arith) (omega (arith, c.slice_known-in-loop-i-1.given c.loop-i.i)) }

pub overflow_sub-margins : goal.overflow_sub-margins
overflow_sub-margins c = omega (arith, settle_loss c.requires c.loop-i.invariant (omega arith) _ c.row_loads.ensures.0)

pub loop-i-preserved : goal.loop-i-preserved
loop-i-preserved c = settle_more c.requires c.loop-i.invariant (omega arith) _ c.row_loads.ensures.0

pub returns : goal.returns
returns c = filled_all c.loop-i.invariant (omega arith) c.requires.margins
