use mathlib.Core.Path.{ap}
use native.Mathlib.Omega.{arith}
use lib.ListN.{length}
use Rattle.text.proofs.LineLaws.{line_step, line_feed, line_end}
use Rattle.text.proofs.line.line_end.Goals as goal

pub returns-then-text-i-eq10 : goal.returns-then-text-i-eq10
returns-then-text-i-eq10 c = omega (arith, ap length (line_feed c.args.text.now c.loop-i.i c.loop-i-test.true c.if-text-i-eq10.true))

pub loop-i-preserved : goal.loop-i-preserved
loop-i-preserved c = omega (arith, ap length (line_step c.args.text.now c.loop-i.i c.loop-i-test.true c.if-text-i-eq10.false))

pub returns : goal.returns
returns c = omega (arith, ap length (line_end c.args.text.now c.loop-i.i c.loop-i-test.false))
