-- `margin::less_s` meets its contract.
use mathlib.Core.Path.{◌≡◌}
use lib.IntN.{pos, ◌-ℤ◌}
use mir.Facts.{to_z-of_z}
use mir.Syntax.{w64}
use mir.Val.{SFits, to_z}
use Rattle.numbers.proofs.IntLaws.{within_fits, within_pos, read_pos}
use Rattle.marginrules.proofs.MagnitudeLaws.{within_sub}
use Rattle.margin.proofs.less_s.Goals as goal

s-is : (c : goal.Start) → to_z w64 c.args.s ≡ pos c.args.s
s-is c = read_pos c.requires.s_le_s_most tt

less-fits : (c : goal.Start) → SFits w64 (c.args.ram -ℤ pos c.args.s)
less-fits c = within_fits (within_sub c.requires.within (within_pos c.requires.s_le_s_most)) tt

pub overflow_cast-result : goal.overflow_cast-result
overflow_cast-result c = within_fits (within_pos c.requires.s_le_s_most) tt

pub overflow_sub-result : goal.overflow_sub-result
overflow_sub-result c = simp (to_z-of_z, c.ranges.ram, s-is c) (less-fits c)

pub returns : goal.returns
returns c = simp (to_z-of_z, c.ranges.ram, s-is c, less-fits c)
