use native.Mathlib.Omega.{arith}
use borrow.Author.Tests.{lt-ltb, le-ltb}
use Rattle.numbers.specs.Below.{at}
use Rattle.numbers.proofs.BelowLaws.{looked_none, looked_all, looked_here, looked_more}
use Rattle.rounds.specs.AllRounds.{stop_by}
use Rattle.walk.specs.Flat.{flat_of}
use Rattle.walk.proofs.stopping.stop_row.Goals as goal

pub loop-i-init : goal.loop-i-init
loop-i-init c = looked_none _ _

pub factor-requires : goal.factor-requires
factor-requires c = (omega arith, c.requires.border_in_bounds)

pub returns-then-shares-i : goal.returns-then-shares-i
unfolding stop_by
returns-then-shares-i c = looked_here _ _ _ c.loop-i.invariant (omega arith)
    (lt-ltb (at c.args.shares.now c.loop-i.i) ((flat_of c.args.grid.now).p c.loop-i.i c.args.b) (omega (arith, c.if-shares-i.true, c.factor.ensures)))

pub loop-i-preserved : goal.loop-i-preserved
loop-i-preserved c = looked_more _ _ _ c.loop-i.invariant (omega arith)
    (le-ltb (at c.args.shares.now c.loop-i.i) ((flat_of c.args.grid.now).p c.loop-i.i c.args.b) (omega (arith, c.if-shares-i.false, c.factor.ensures)))

pub returns : goal.returns
unfolding stop_by
returns c = looked_all _ _ _ c.loop-i.invariant (omega arith)
