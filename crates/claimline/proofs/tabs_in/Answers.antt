use Prim.Native.Nat.{◌+◌}
use native.Mathlib.Omega.{arith}
use lib.ListN.{length}
use Rattle.numbers.proofs.BelowLaws.{Summed, summed_none, summed_more, summed_all}
use Rattle.claimline.specs.ClaimText.{is_tab}
use Rattle.claimline.proofs.ReadLaws.{tabs_le}
use Rattle.claimline.proofs.tabs_in.Goals as goal

more : (c : goal.After-is_tab-tabs) → Summed (is_tab c.args.line.now) (length c.args.line.now) (c.loop-i.i + 1) (c.loop-i.tabs + c.is_tab-tabs.result)
more c = summed_more c.loop-i.invariant _ (omega arith) c.is_tab-tabs.ensures

pub loop-i-init : goal.loop-i-init
loop-i-init c = summed_none _ _

pub overflow_add-tabs : goal.overflow_add-tabs
overflow_add-tabs c = omega (arith, (more c).total, (more c).high, tabs_le c.args.line.now (c.loop-i.i + 1))

pub loop-i-preserved : goal.loop-i-preserved
loop-i-preserved c = more c

pub returns : goal.returns
returns c = summed_all c.loop-i.invariant (omega arith)
