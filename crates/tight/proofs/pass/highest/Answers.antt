use native.Mathlib.Omega.{arith}
use Rattle.tightrules.proofs.PassLaws.{both_none, both_more, both_all}
use Rattle.tight.proofs.pass.highest.Goals as goal

pub loop-b-init : goal.loop-b-init
loop-b-init c = both_none _ _

pub higher-most-requires : goal.higher-most-requires
higher-most-requires c = record { margins_len = (c.requires.margins_len.0, c.requires.margins_len.1, omega arith); ns_value = c.requires.ns_value; small = c.requires.small }

pub loop-b-preserved : goal.loop-b-preserved
loop-b-preserved c = both_more c.loop-b.invariant (omega arith) c.higher-most.ensures

pub returns : goal.returns
returns c = both_all c.loop-b.invariant (omega arith)
