-- `corners::corner_part` meets its contract.
use mathlib.Core.Path.{◌≡◌, ap, ap₂, ◌∙◌}
use Prim.Native.Nat.{ℕ, ◌*◌, ◌≤◌}
use native.Mathlib.Omega.{arith}
use lib.IntN.{ℤ, pos, ◌*ℤ◌}
use lib.ListN.{length}
use mir.Facts.{to_z-of_z}
use mir.Syntax.{w64}
use mir.Val.{SFits}
use Rattle.numbers.proofs.IntLaws.{within_fits, within_pos, read_pos}
use Rattle.types.specs.LineLimits.{lta_most}
use Rattle.marginrules.specs.Margin.{corner_part}
use Rattle.marginrules.specs.Magnitudes.{BorderInRange}
use Rattle.marginrules.proofs.JudgedLaws.{border_judged}
use Rattle.cornerrules.proofs.ListedLaws.{kw_most, factor_within, part_within}
use Rattle.corners.proofs.corner_part.Goals as goal

bound : (c : goal.After-of_good-border) → BorderInRange (length c.args.factors.now) c.of_good-border.result
bound c = border_judged _ _ c.requires.raw_value c.of_good-border.ensures

abbrev kw : (c : goal.After-signed_factor) → ℕ
kw c = c.lta_kw-lta.result

abbrev factor : (c : goal.After-signed_factor) → ℤ
factor c = c.signed_factor.result

kw-in : (c : goal.After-signed_factor) → (kw c) ≤ lta_most * 1000
kw-in c = omega (arith, c.lta_kw-lta.ensures, kw_most c.requires.factors_in_range (bound c.before.before))

factor-fits : (c : goal.After-signed_factor) → SFits w64 (factor c)
factor-fits c = rw c.signed_factor.ensures (within_fits (factor_within c.requires.factors_in_range (bound c.before.before)) tt)

product_is : (c : goal.After-signed_factor) → (factor c) *ℤ pos (kw c) ≡ corner_part c.args.factors.now c.of_good-border.result
unfolding corner_part
product_is c = ap₂ (λ (z : ℤ) (k : ℕ). z *ℤ pos k) c.signed_factor.ensures c.lta_kw-lta.ensures

product_fits : (c : goal.After-signed_factor) → SFits w64 ((factor c) *ℤ pos (kw c))
product_fits c = rw (product_is c) (within_fits (part_within c.requires.factors_in_range (bound c.before.before)) tt)

pub of_good-border-requires : goal.of_good-border-requires
of_good-border-requires c = c.requires.raw_value

pub lta_kw-lta-requires : goal.lta_kw-lta-requires
lta_kw-lta-requires c = (bound c).lta_in

pub signed_factor-requires : goal.signed_factor-requires
signed_factor-requires c = record { factors_in_range = c.requires.factors_in_range; border_in_range = bound c.before }

pub overflow_cast-result : goal.overflow_cast-result
overflow_cast-result c = within_fits (within_pos (kw-in c)) tt

pub overflow_mul-result : goal.overflow_mul-result
overflow_mul-result c = simp (to_z-of_z, factor-fits c, read_pos (kw-in c) tt) (product_fits c)

pub returns : goal.returns
returns c = simp (to_z-of_z, factor-fits c, read_pos (kw-in c) tt, product_fits c) (product_is c ∙ ap (corner_part _) c.of_good-border.ensures)
