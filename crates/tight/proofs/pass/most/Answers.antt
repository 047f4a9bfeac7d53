use mathlib.Core.Path.{refl}
use native.Mathlib.Omega.{arith}
use Rattle.tightrules.proofs.PassLaws.{up_to_none, up_to_more, up_to_all}
use Rattle.tight.proofs.pass.most.Goals as goal

pub loop-item-init : goal.loop-item-init
loop-item-init c = up_to_none _ _

pub loop-item-preserved : goal.loop-item-preserved
loop-item-preserved c = up_to_more c.loop-item.invariant _ _ (omega arith) refl c.max-most.ensures

pub returns : goal.returns
returns c = up_to_all c.loop-item.invariant (omega arith)
