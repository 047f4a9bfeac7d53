use native.Mathlib.Omega.{arith}
use Rattle.numbers.proofs.ListLaws.{filled_none, filled_more, filled_all}
use Rattle.rounds.specs.Rounds.{sharers}
use Rattle.rounds.proofs.Loops.{counted_none, counted_le, counted_all}
use Rattle.walk.proofs.FlatLaws.{counted_more, row_at}
use Rattle.walk.proofs.grid.Grid.count_sharers.Goals as goal

pub loop-i-init : goal.loop-i-init
loop-i-init c = filled_none _ _ _

pub loop-f-init : goal.loop-f-init
loop-f-init c = counted_none _ _

pub overflow_add-n : goal.overflow_add-n
overflow_add-n c = let u = counted_more c.loop-f.invariant _ _ (omega arith) (row_at _ c.row-f-items.ensures.factors _ (omega arith)) c.from-n.ensures in omega (arith, counted_le u)

pub loop-f-preserved : goal.loop-f-preserved
loop-f-preserved c = counted_more c.loop-f.invariant _ _ (omega arith) (row_at _ c.row-f-items.ensures.factors _ (omega arith)) c.from-n.ensures

pub loop-i-preserved : goal.loop-i-preserved
unfolding sharers
loop-i-preserved c = filled_more c.loop-i.invariant _ (omega arith) (omega arith) (counted_all c.loop-f.invariant (omega arith))

pub returns : goal.returns
returns c = filled_all c.loop-i.invariant c.loop-i-test.false c.requires
