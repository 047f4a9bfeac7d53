use native.Mathlib.Omega.{arith}
use Rattle.walk.proofs.FlatLaws.{row_at}
use Rattle.walk.proofs.LoweringLaws.{lowering_none, lowering_more, lowering_all}
use Rattle.walk.proofs.lower_caps.Goals as goal

pub loop-b-init : goal.loop-b-init
loop-b-init c = lowering_none _ _ _ _ _

pub loop-b-preserved : goal.loop-b-preserved
loop-b-preserved c = lowering_more c.requires.listed c.requires.caps_len c.loop-b.invariant (omega arith) _ _ (row_at _ c.row-factors.ensures.factors _ (c.requires.listed.inside _ (omega arith))) c.tighten.ensures

pub returns : goal.returns
returns c = lowering_all c.requires.listed c.requires.caps_len c.loop-b.invariant (omega arith)
