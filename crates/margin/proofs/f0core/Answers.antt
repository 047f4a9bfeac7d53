-- `margin::f0core` meets its contract: Fref in grains, less the flow of the net positions.
use mathlib.Core.Path.{◌≡◌, ap, ◌∙◌}
use native.Mathlib.Omega.{arith}
use borrow.Author.Rules.{sfits_of}
use lib.IntN.{ℤ, ◌-ℤ◌}
use mir.Facts.{to_z-of_z}
use mir.Syntax.{w64}
use mir.Val.{to_z, of_z}
use Rattle.numbers.proofs.IntLaws.{within_fits, within_le}
use Rattle.marginrules.specs.Margin.{grains, flow_of, f0core_of}
use Rattle.marginrules.proofs.MagnitudeLaws.{within_is, within_grains}
use Rattle.margin.proofs.f0core.Goals as goal

g-is : (c : goal.After-grains) → to_z w64 (of_z w64 c.grains.result) ≡ grains c.args.row.fref
g-is c = to_z-of_z {w = w64} (sfits_of c.grains.type_inv) ∙ (simp (to_z-of_z, within_fits c.requires.row_in_range.fref_in tt) at c.grains.ensures)

pub less_flow-requires : goal.less_flow-requires
less_flow-requires c = record { within = within_is (g-is c) (within_le (within_grains c.requires.row_in_range.fref_in) (omega arith)); factors_in_range = c.requires.factors_in_range; nets_in_range = c.requires.nets_in_range }

pub returns : goal.returns
unfolding f0core_of
returns c = to_z-of_z {w = w64} (sfits_of c.less_flow.type_inv) ∙ c.less_flow.ensures ∙ ap (λ (g : ℤ). g -ℤ flow_of c.args.factors.now c.args.nets.now) (g-is c.before)
