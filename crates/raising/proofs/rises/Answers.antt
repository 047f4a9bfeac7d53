use native.Mathlib.Omega.{arith}
use Rattle.raising.proofs.StillLaws.{still_none, still_more, still_some, still_all}
use Rattle.raising.proofs.rises.Goals as goal

pub loop-b-init : goal.loop-b-init
loop-b-init c = still_none _ _

pub returns-then-caps-b-gt0 : goal.returns-then-caps-b-gt0
returns-then-caps-b-gt0 c = still_some c.requires (omega arith) c.if-caps-b-gt0.true

pub loop-b-preserved : goal.loop-b-preserved
loop-b-preserved c = still_more c.loop-b.invariant (omega arith) c.if-caps-b-gt0.false

pub returns : goal.returns
returns c = still_all c.requires c.loop-b.invariant (omega arith)
