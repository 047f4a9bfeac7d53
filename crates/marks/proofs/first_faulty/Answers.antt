use mathlib.Core.Path.{sym, ◌∙◌}
use native.Mathlib.Omega.{arith}
use Rattle.numbers.proofs.BelowLaws.{looked_none, looked_all, looked_here, looked_more}
use Rattle.marks.proofs.first_faulty.Goals as goal

pub loop-k-init : goal.loop-k-init
loop-k-init c = looked_none _ _

pub returns-then-is_faulty : goal.returns-then-is_faulty
returns-then-is_faulty c = looked_here _ _ _ c.loop-k.invariant (omega arith) (sym c.is_faulty.ensures ∙ c.if-is_faulty.true)

pub loop-k-preserved : goal.loop-k-preserved
loop-k-preserved c = looked_more _ _ _ c.loop-k.invariant (omega arith) (sym c.is_faulty.ensures ∙ c.if-is_faulty.false)

pub returns : goal.returns
returns c = looked_all _ _ _ c.loop-k.invariant (omega arith)
