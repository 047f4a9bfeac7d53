use mathlib.Core.Path.{sym, ap, ◌∙◌}
use mathlib.Core.Bool.{false}
use native.Mathlib.Omega.{arith}
use borrow.Author.Tests.{not-true, not-false}
use Rattle.numbers.proofs.IntLaws.{plain}
use Rattle.types.specs.Ranges.{factor_fits}
use Rattle.types.proofs.AllLaws.{tests_length, test_at}
use Rattle.blame.proofs.RangeLaws.{tested_none, tested_here, tested_more, tested_all}
use Rattle.blame.proofs.range.factors_range.Goals as goal

pub loop-j-init : goal.loop-j-init
loop-j-init c = tested_none _ _ _ _

pub overflow_add-k : goal.overflow_add-k
overflow_add-k c = omega (arith, c.requires)

pub returns-then-not-factor_fits : goal.returns-then-not-factor_fits
returns-then-not-factor_fits c = let fits = c.factor_fits.ensures ∙ ap factor_fits (plain _ c.factor_fits-arg-1.given) in
    c.field_first.ensures
    ∙ tested_here _ _ _ _ _ c.loop-j.invariant false (omega (arith, tests_length c.args.f.now)) (test_at c.args.f.now c.loop-j.j c.loop-j-test.true false ∙ sym fits ∙ not-true _ c.if-not-factor_fits.true-raw)

pub loop-j-preserved : goal.loop-j-preserved
loop-j-preserved c = let fits = c.factor_fits.ensures ∙ ap factor_fits (plain _ c.factor_fits-arg-1.given) in
    tested_more _ _ _ _ _ c.loop-j.invariant false (omega (arith, tests_length c.args.f.now)) (test_at c.args.f.now c.loop-j.j c.loop-j-test.true false ∙ sym fits ∙ not-false _ c.if-not-factor_fits.false-raw)

pub returns : goal.returns
returns c = tested_all _ _ _ _ _ c.loop-j.invariant (omega (arith, tests_length c.args.f.now))
