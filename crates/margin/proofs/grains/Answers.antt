-- `margin::grains` meets its contract.
use mir.Facts.{to_z-of_z}
use Rattle.numbers.proofs.IntLaws.{within_fits}
use Rattle.marginrules.specs.Margin.{grains}
use Rattle.marginrules.proofs.MagnitudeLaws.{within_grains}
use Rattle.margin.proofs.grains.Goals as goal

pub overflow_mul-result : goal.overflow_mul-result
unfolding grains
overflow_mul-result c = simp (to_z-of_z, c.ranges.kw) (within_fits (within_grains c.requires) tt)

pub returns : goal.returns
unfolding grains
returns c = simp (to_z-of_z, c.ranges.kw, within_fits (within_grains c.requires) tt)
