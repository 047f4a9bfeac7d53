use mathlib.Core.Path.{◌∙◌}
use native.Mathlib.Omega.{arith}
use borrow.Author.Tests.{not-true, not-false}
use Rattle.blame.proofs.RangeLaws.{tested_none, tested_here, tested_more, tested_all}
use Rattle.blame.proofs.range.range_byte.Goals as goal

pub loop-j-init : goal.loop-j-init
loop-j-init c = tested_none _ _ _ _

pub overflow_add-k : goal.overflow_add-k
overflow_add-k c = omega (arith, c.requires)

pub returns-then-not-tests-j : goal.returns-then-not-tests-j
returns-then-not-tests-j c = c.field_first.ensures ∙ tested_here _ _ _ _ _ c.loop-j.invariant _ c.loop-j-test.true (not-true _ c.if-not-tests-j.true-raw)

pub loop-j-preserved : goal.loop-j-preserved
loop-j-preserved c = tested_more _ _ _ _ _ c.loop-j.invariant _ c.loop-j-test.true (not-false _ c.if-not-tests-j.false-raw)

pub returns : goal.returns
returns c = tested_all _ _ _ _ _ c.loop-j.invariant c.loop-j-test.false
