-- `caps::tighten` meets its contract: a product tells whether the cap stays (`tight-same`) or falls (`tight-less`), and a quotient where the product may not fit.
use mathlib.Core.Path.{◌∙◌}
use native.Mathlib.Omega.{arith}
use borrow.Author.Tests.{ltb-true}
use Rattle.caps.proofs.TightLaws.{tight_same, tight_less, tight_zero, tight_pos, product_fits}
use Rattle.caps.proofs.tighten.Goals as goal

pub overflow_mul-cap : goal.overflow_mul-cap
overflow_mul-cap c = omega (arith, product_fits c.args.f c.args.cap c.if-cap-lt-CAP_BELOW.true (ltb-true _ _ c.if-f-lt-FACTOR_BELOW.true-raw))

pub returns-then-cap-f : goal.returns-then-cap-f
returns-then-cap-f c = tight_same c.args.f c.args.share c.args.cap c.if-cap-f.true

pub nonzero_div-result : goal.nonzero_div-result
nonzero_div-result c = (tight_less c.args.f c.args.share c.args.cap c.if-cap-f.false).0

pub returns-then-f-lt-FACTOR_BELOW : goal.returns-then-f-lt-FACTOR_BELOW
returns-then-f-lt-FACTOR_BELOW c = (tight_less c.args.f c.args.share c.args.cap c.if-cap-f.false).1

pub returns-then-f-eq0 : goal.returns-then-f-eq0
returns-then-f-eq0 c = tight_zero c.args.f c.args.share c.args.cap c.if-f-eq0.true

pub returns : goal.returns
returns c = c.min.ensures ∙ tight_pos c.args.f c.args.share c.args.cap (omega arith)
