use native.Mathlib.Omega.{arith}
use Rattle.claimline.proofs.ReadLaws.{numbers_none, numbers_all, numbers_bad, numbers_more}
use Rattle.claimline.proofs.are_numbers.Goals as goal

pub loop-k-init : goal.loop-k-init
loop-k-init c = numbers_none _ _ _

pub returns-in_default : goal.returns-in_default
returns-in_default c = numbers_bad _ _ _ _ _ c.loop-k.invariant (omega arith) _ c.stop_of-stop.ensures _ c.field_at.ensures _ c.in_default.is

pub loop-k-preserved : goal.loop-k-preserved
loop-k-preserved c = numbers_more _ _ _ _ _ c.loop-k.invariant (omega arith) _ c.stop_of-stop.ensures _ c.field_at.ensures _ _ c.in-Ok.is

pub returns : goal.returns
returns c = numbers_all _ _ _ _ _ c.loop-k.invariant (omega arith)
