use Rattle.std.specs.Prelude.{Option}
use mathlib.Core.Path.{sym, ap, ◌∙◌}
use mathlib.Core.Bool.{not}
use Prim.Native.Nat.{ℕ}
use native.Mathlib.Omega.{arith}
use Rattle.numbers.specs.Below.{given}
use Rattle.numbers.proofs.BelowLaws.{looked_none, looked_all, looked_here, looked_more}
use Rattle.claims.proofs.pairs_good.Goals as goal

pub loop-j-init : goal.loop-j-init
loop-j-init c = looked_none _ _

pub returns-then-not-pair_good : goal.returns-then-not-pair_good
unfolding given
returns-then-not-pair_good c = ap (λ (o : Option ℕ). not (given o)) (looked_here _ _ _ c.loop-j.invariant (omega arith) (sym (ap not c.pair_good.ensures) ∙ c.if-not-pair_good.true-raw))

pub loop-j-preserved : goal.loop-j-preserved
loop-j-preserved c = looked_more _ _ _ c.loop-j.invariant (omega arith) (sym (ap not c.pair_good.ensures) ∙ c.if-not-pair_good.false-raw)

pub returns : goal.returns
unfolding given
returns c = ap (λ (o : Option ℕ). not (given o)) (looked_all _ _ _ c.loop-j.invariant (omega arith))
