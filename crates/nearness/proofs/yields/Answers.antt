use native.Mathlib.Omega.{arith}
use Rattle.rounds.proofs.Loops.{ready_long}
use Rattle.walk.proofs.FlatLaws.{row_at}
use Rattle.nearness.proofs.YieldLaws.{lower_none, lower_more, lower_all}
use Rattle.nearness.proofs.yields.Goals as goal

pub bounds-ns-t : goal.bounds-ns-t
bounds-ns-t c = omega (arith, ready_long c.requires.ready)

pub bounds-ns-i : goal.bounds-ns-i
bounds-ns-i c = omega (arith, ready_long c.requires.ready)

pub loop-b-init : goal.loop-b-init
loop-b-init c = lower_none _ _ _ _

pub loop-b-preserved : goal.loop-b-preserved
loop-b-preserved c =
    let here = c.requires.rising_in_bounds c.loop-b.b-index (omega arith) in
    lower_more c.loop-b.invariant (omega arith) _ _ (row_at _ c.row-leading.ensures.factors _ here) (row_at _ c.row-yielding.ensures.factors _ here) (omega arith)

pub returns : goal.returns
returns c = λ z. lower_all c.loop-b.invariant c.requires.ready c.requires.rows_in_bounds.0 c.requires.rows_in_bounds.1 (omega arith) (omega arith) (omega arith)
