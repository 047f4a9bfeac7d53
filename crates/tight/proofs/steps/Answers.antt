use mathlib.Core.Path.{sym, ap, ◌∙◌}
use Prim.Native.Nat.{ℕ}
use native.Mathlib.Omega.{arith}
use Rattle.tightrules.specs.Tight.{steps}
use Rattle.tightrules.proofs.StepLaws.{steps_idle, stepped_none, stepped_more, stepped_few, stepped_all}
use Rattle.tight.proofs.steps.Goals as goal

pub returns-then-n-eq0 : goal.returns-then-n-eq0
returns-then-n-eq0 c = sym (ap (λ (n : ℕ). steps n c.args.u) c.if-n-eq0.true ∙ steps_idle _)

pub loop-rest-init : goal.loop-rest-init
loop-rest-init c = stepped_none _ _

pub overflow_add-count : goal.overflow_add-count
overflow_add-count c = omega (arith, stepped_few c.loop-rest.invariant (omega arith) (omega arith))

pub loop-rest-preserved : goal.loop-rest-preserved
loop-rest-preserved c = rw c.div_ceil-rest.ensures (stepped_more c.loop-rest.invariant (omega arith) (omega arith))

pub returns : goal.returns
returns c = stepped_all c.loop-rest.invariant (omega arith)
