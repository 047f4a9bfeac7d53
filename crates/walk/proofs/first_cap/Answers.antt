use native.Mathlib.Omega.{arith}
use Rattle.walk.proofs.CapLaws.{margin_first, unloaded_none, unloaded_more, unloaded_first}
use Rattle.walk.proofs.first_cap.Goals as goal

pub loop-i-init : goal.loop-i-init
loop-i-init c = unloaded_none _ _

pub factor-requires : goal.factor-requires
factor-requires c = (omega arith, c.requires.border_in_bounds)

pub returns-then-factor-gt0 : goal.returns-then-factor-gt0
returns-then-factor-gt0 c = margin_first _ _ _ _ _ (omega arith) c.factor.ensures c.if-factor-gt0.true

pub loop-i-preserved : goal.loop-i-preserved
loop-i-preserved c = unloaded_more c.loop-i.invariant _ (omega arith) c.factor.ensures c.if-factor-gt0.false

pub returns : goal.returns
returns c = unloaded_first c.loop-i.invariant _ (omega arith)
