use mathlib.Core.Path.{sym, ap, ◌∙◌}
use native.Mathlib.Omega.{arith}
use Rattle.numbers.specs.Below.{given}
use Rattle.numbers.proofs.BelowLaws.{looked_none, looked_all, looked_here, looked_more}
use Rattle.tablerules.specs.Table.{twice}
use Rattle.table.proofs.is_twice.Goals as goal

pub loop-e-init : goal.loop-e-init
loop-e-init c = looked_none _ _

pub returns-then-same_ends : goal.returns-then-same_ends
unfolding twice given
returns-then-same_ends c = ap given (looked_here _ _ _ c.loop-e.invariant (omega arith) (sym c.same_ends.ensures ∙ c.if-same_ends.true))

pub loop-e-preserved : goal.loop-e-preserved
loop-e-preserved c = looked_more _ _ _ c.loop-e.invariant (omega arith) (sym c.same_ends.ensures ∙ c.if-same_ends.false)

pub returns : goal.returns
unfolding twice given
returns c = ap given (looked_all _ _ _ c.loop-e.invariant (omega arith))
