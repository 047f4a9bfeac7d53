use mathlib.Core.Path.{sym, ◌∙◌}
use native.Mathlib.Omega.{arith}
use Rattle.numbers.proofs.BelowLaws.{looked_none, looked_all, looked_here, looked_more}
use Rattle.table.proofs.first_twice.Goals as goal

pub loop-i-init : goal.loop-i-init
loop-i-init c = looked_none _ _

pub returns-then-is_twice : goal.returns-then-is_twice
returns-then-is_twice c = looked_here _ _ _ c.loop-i.invariant (omega arith) (sym c.is_twice.ensures ∙ c.if-is_twice.true)

pub loop-i-preserved : goal.loop-i-preserved
loop-i-preserved c = looked_more _ _ _ c.loop-i.invariant (omega arith) (sym c.is_twice.ensures ∙ c.if-is_twice.false)

pub returns : goal.returns
returns c = looked_all _ _ _ c.loop-i.invariant (omega arith)
