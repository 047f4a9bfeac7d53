use mathlib.Core.Path.{◌≡◌, sym, ap, ◌∙◌}
use native.Mathlib.Omega.{arith}
use Rattle.numbers.specs.Below.{given}
use Rattle.numbers.specs.Ints.{same_ℤ}
use Rattle.numbers.proofs.BelowLaws.{looked_none, looked_all, looked_here, looked_more}
use Rattle.numbers.proofs.IntLaws.{plain}
use Rattle.claimrules.specs.Claims.{cited_row, cited_before}
use Rattle.claims.proofs.cited_before.Goals as goal

pub loop-e-init : goal.loop-e-init
loop-e-init c = looked_none _ _

pub returns-then-same : goal.returns-then-same
unfolding cited_before given
returns-then-same c = let fact : c.same.result ≡ same_ℤ (cited_row c.args.claim c.loop-e.e) (cited_row c.args.claim c.args.j) = simp (plain, c.same-arg-1.given, c.same-arg-in-loop-e-1.given) at c.same.ensures in
    ap given (looked_here _ _ _ c.loop-e.invariant (omega arith) (sym (fact) ∙ c.if-same.true))

pub loop-e-preserved : goal.loop-e-preserved
loop-e-preserved c = let fact : c.same.result ≡ same_ℤ (cited_row c.args.claim c.loop-e.e) (cited_row c.args.claim c.args.j) = simp (plain, c.same-arg-1.given, c.same-arg-in-loop-e-1.given) at c.same.ensures in
    looked_more _ _ _ c.loop-e.invariant (omega arith) (sym (fact) ∙ c.if-same.false)

pub returns : goal.returns
unfolding cited_before given
returns c = ap given (looked_all _ _ _ c.loop-e.invariant (omega arith))
