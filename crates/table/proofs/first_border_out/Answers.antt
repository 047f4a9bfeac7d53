use mathlib.Core.Path.{sym, ap, ◌∙◌}
use mathlib.Core.Bool.{not}
use native.Mathlib.Omega.{arith}
use Rattle.numbers.proofs.BelowLaws.{looked_none, looked_all, looked_here, looked_more}
use Rattle.types.proofs.ConstructorLaws.{border_good, border_out_lem}
use Rattle.table.proofs.first_border_out.Goals as goal

pub loop-i-init : goal.loop-i-init
loop-i-init c = looked_none _ _

pub returns-in_default : goal.returns-in_default
returns-in_default c = looked_here _ _ _ c.loop-i.invariant (omega arith) (ap not (border_out_lem _ _ (sym c.of.ensures ∙ c.in_default.is)))

pub loop-i-preserved : goal.loop-i-preserved
loop-i-preserved c = looked_more _ _ _ c.loop-i.invariant (omega arith) (ap not (border_good _ _ _ (sym c.of.ensures ∙ c.in-Some.is)).0)

pub returns : goal.returns
returns c = looked_all _ _ _ c.loop-i.invariant (omega arith)
