use mathlib.Core.Path.{refl}
use native.Mathlib.Omega.{arith}
use Rattle.numbers.proofs.ListLaws.{filled_none, filled_more, filled_all}
use Rattle.walk.proofs.list_all.Goals as goal

pub loop-b-init : goal.loop-b-init
loop-b-init c = filled_none _ _ _

pub loop-b-preserved : goal.loop-b-preserved
loop-b-preserved c = filled_more c.loop-b.invariant _ (omega arith) (omega arith) refl

pub returns : goal.returns
returns c = filled_all c.loop-b.invariant (omega arith) refl
