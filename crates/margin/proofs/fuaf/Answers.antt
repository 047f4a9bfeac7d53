-- `margin::fuaf` meets its contract.
use mathlib.Core.Path.{◌≡◌}
use borrow.Author.Rules.{sfits_of}
use lib.IntN.{◌-ℤ◌}
use mir.Facts.{to_z-of_z}
use mir.Syntax.{w64}
use mir.Val.{SFits}
use Rattle.numbers.proofs.IntLaws.{within_fits}
use Rattle.marginrules.specs.Margin.{grains, fuaf_of}
use Rattle.marginrules.proofs.MagnitudeLaws.{within_is, within_sub, within_grains}
use Rattle.margin.proofs.fuaf.Goals as goal

f0all-is : (c : goal.After-grains) → c.grains.result ≡ grains c.args.row.f0all
f0all-is c = simp (to_z-of_z, within_fits c.requires.row_in_range.f0all_in tt) at c.grains.ensures

f0all-fits : (c : goal.After-grains) → SFits w64 c.grains.result
f0all-fits c = sfits_of c.grains.type_inv

fuaf-fits : (c : goal.After-grains) → SFits w64 (c.args.f0core -ℤ c.grains.result)
fuaf-fits c = within_fits (within_sub c.requires.within (within_is (f0all-is c) (within_grains c.requires.row_in_range.f0all_in))) tt

pub overflow_sub-result : goal.overflow_sub-result
overflow_sub-result c = simp (to_z-of_z, c.ranges.f0core, f0all-fits c) (fuaf-fits c)

pub returns : goal.returns
unfolding fuaf_of
returns c = simp (to_z-of_z, c.ranges.f0core, f0all-fits c, fuaf-fits c) (cc (f0all-is c))
