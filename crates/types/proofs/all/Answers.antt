use Rattle.types.proofs.AllLaws.{joined_none, joined_more, joined_all}
use Rattle.types.proofs.all.Goals as goal

pub loop-j-init : goal.loop-j-init
loop-j-init c = joined_none _

pub loop-j-preserved : goal.loop-j-preserved
loop-j-preserved c = joined_more _ _ _ c.loop-j.invariant _ c.loop-j-test.true

pub returns : goal.returns
returns c = joined_all _ _ _ c.loop-j.invariant c.loop-j-test.false
