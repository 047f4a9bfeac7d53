-- `margin::lta_load` meets its contract.
use mathlib.Core.Path.{◌≡◌}
use Prim.Native.Nat.{◌*◌}
use native.Mathlib.Omega.{arith}
use lib.ListN.{length}
use Rattle.marginrules.specs.Margin.{p_of, lta_kw}
use Rattle.marginrules.specs.Magnitudes.{BorderInRange}
use Rattle.marginrules.proofs.MagnitudeLaws.{load_most}
use Rattle.marginrules.proofs.JudgedLaws.{border_judged}
use Rattle.margin.proofs.lta_load.Goals as goal

bound : (c : goal.After-of_good-border) → BorderInRange (length c.args.factors.now) c.of_good-border.result
bound c = border_judged _ _ c.requires.raw_value c.of_good-border.ensures

pub of_good-border-requires : goal.of_good-border-requires
of_good-border-requires c = c.requires.raw_value

pub p-requires : goal.p-requires
p-requires c = record { factors_in_range = c.requires.factors_in_range; border_in_range = bound c }

pub lta_kw-requires : goal.lta_kw-requires
lta_kw-requires c = (bound c.before).lta_in

pub overflow_mul-result : goal.overflow_mul-result
overflow_mul-result c = let e : c.p.result * c.lta_kw.result ≡ p_of c.args.factors.now c.of_good-border.result * lta_kw c.of_good-border.result = cc (c.p.ensures, c.lta_kw.ensures) in
    omega (arith, e, load_most c.requires.factors_in_range.each (bound c.before.before))

pub returns : goal.returns
returns c = cc (c.p.ensures, c.lta_kw.ensures, c.of_good-border.ensures)
