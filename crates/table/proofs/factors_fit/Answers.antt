use mathlib.Core.Path.{sym, ap, subst, ◌∙◌}
use mathlib.Core.Bool.{Bool, true, ◌&&◌}
use Prim.Native.Nat.{◌+◌}
use native.Mathlib.Omega.{arith}
use Rattle.numbers.proofs.IntLaws.{plain}
use Rattle.types.specs.Ranges.{factor_fits, factor_tests}
use Rattle.types.proofs.AllLaws.{tests_length, test_at, Joined, joined_none, joined_more, joined_all}
use Rattle.table.proofs.factors_fit.Goals as goal

pub loop-z-init : goal.loop-z-init
loop-z-init c = joined_none _

pub loop-z-preserved : goal.loop-z-preserved
loop-z-preserved c = let fits = c.factor_fits-held.ensures ∙ ap factor_fits (plain _ c.factor_fits-arg-1.given) in
    subst (λ (t : Bool). Joined (factor_tests c.args.f.now) (c.loop-z.held && t) (c.loop-z.z + 1)) (test_at c.args.f.now c.loop-z.z c.loop-z-test.true true ∙ sym fits)
    (joined_more _ _ _ c.loop-z.invariant true (omega (arith, tests_length c.args.f.now)))

pub returns : goal.returns
returns c = joined_all _ _ _ c.loop-z.invariant (omega (arith, tests_length c.args.f.now))
