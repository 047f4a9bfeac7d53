-- `margin::base` meets its contract.
use mathlib.Core.Path.{◌≡◌}
use borrow.Author.Rules.{sfits_of}
use native.Mathlib.Omega.{arith}
use lib.IntN.{◌-ℤ◌}
use mir.Facts.{to_z-of_z}
use mir.Syntax.{w64}
use mir.Val.{SFits}
use Rattle.numbers.proofs.IntLaws.{within_fits, within_le}
use Rattle.marginrules.specs.Margin.{grains, base_of}
use Rattle.marginrules.proofs.MagnitudeLaws.{within_is, within_sub, within_grains}
use Rattle.margin.proofs.base.Goals as goal

fmax-is : (c : goal.After-grains-2) → c.grains.result ≡ grains c.args.row.fmax
fmax-is c = simp (to_z-of_z, within_fits c.requires.row_in_range.fmax_in tt) at c.grains.ensures

frm-is : (c : goal.After-grains-2) → c.grains-2.result ≡ grains c.args.row.frm
frm-is c = simp (to_z-of_z, within_fits c.requires.row_in_range.frm_in tt) at c.grains-2.ensures

fmax-fits : (c : goal.After-grains-2) → SFits w64 c.grains.result
fmax-fits c = sfits_of c.grains.type_inv

frm-fits : (c : goal.After-grains-2) → SFits w64 c.grains-2.result
frm-fits c = sfits_of c.grains-2.type_inv

first_fits : (c : goal.After-grains-2) → SFits w64 (c.grains.result -ℤ c.grains-2.result)
first_fits c = within_fits (within_sub (within_is (fmax-is c) (within_grains c.requires.row_in_range.fmax_in)) (within_is (frm-is c) (within_grains c.requires.row_in_range.frm_in))) tt

base-fits : (c : goal.After-grains-2) → SFits w64 (c.grains.result -ℤ c.grains-2.result -ℤ c.args.f0core)
base-fits c = within_fits (within_sub (within_sub (within_is (fmax-is c) (within_grains c.requires.row_in_range.fmax_in)) (within_is (frm-is c) (within_grains c.requires.row_in_range.frm_in))) c.requires.within) tt

pub grains-requires : goal.grains-requires
grains-requires c = simp (to_z-of_z, within_fits c.requires.row_in_range.fmax_in tt) (within_le c.requires.row_in_range.fmax_in (omega arith))

pub grains-requires-2 : goal.grains-requires-2
grains-requires-2 c = simp (to_z-of_z, within_fits c.requires.row_in_range.frm_in tt) (within_le c.requires.row_in_range.frm_in (omega arith))

pub overflow_sub-result : goal.overflow_sub-result
overflow_sub-result c = simp (to_z-of_z, fmax-fits c, frm-fits c) (first_fits c)

pub overflow_sub-result-2 : goal.overflow_sub-result-2
overflow_sub-result-2 c = simp (to_z-of_z, c.ranges.f0core, fmax-fits c, frm-fits c, first_fits c) (base-fits c)

pub returns : goal.returns
unfolding base_of
returns c = simp (to_z-of_z, c.ranges.f0core, fmax-fits c, frm-fits c, first_fits c, base-fits c) (cc (fmax-is c, frm-is c))
