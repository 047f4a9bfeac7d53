-- `margin::row_ram` meets its contract.
use mathlib.Core.Path.{◌≡◌, ◌∙◌}
use native.Mathlib.Omega.{arith}
use borrow.Author.Rules.{sfits_of}
use mir.Facts.{to_z-of_z}
use mir.Syntax.{w64}
use mir.Val.{SFits}
use Rattle.numbers.specs.Ints.{Within}
use Rattle.limits.specs.Limits.{zones_most}
use Rattle.marginrules.specs.Margin.{ram_of}
use Rattle.marginrules.specs.Magnitudes.{RowInRange, f0core_most}
use Rattle.marginrules.proofs.MagnitudeLaws.{within_is, within_f0core}
use Rattle.marginrules.proofs.JudgedLaws.{row_judged}
use Rattle.margin.proofs.row_ram.Goals as goal

bound : (c : goal.After-of_good-row) → RowInRange c.of_good-row.result
bound c = row_judged _ c.requires.raw_value c.of_good-row.ensures

f0core-fits : (c : goal.After-f0core-f0core) → SFits w64 c.f0core-f0core.result
f0core-fits c = sfits_of c.f0core-f0core.type_inv

f0core_in : (c : goal.After-f0core-f0core) → Within f0core_most c.f0core-f0core.result
f0core_in c = within_is c.f0core-f0core.ensures (within_f0core _ (bound c.before).fref_in _ _ c.requires.nets_in_range.few c.requires.factors_in_range.each c.requires.nets_in_range.each zones_most (omega (arith, c.requires.nets_in_range.few, c.requires.factors_in_range.few)))

pub of_good-row-requires : goal.of_good-row-requires
of_good-row-requires c = c.requires.raw_value

pub f0core-f0core-requires : goal.f0core-f0core-requires
f0core-f0core-requires c = record { row_in_range = bound c; factors_in_range = c.requires.factors_in_range; nets_in_range = c.requires.nets_in_range }

pub ram-requires : goal.ram-requires
ram-requires c = simp (to_z-of_z, f0core-fits c, c.ranges.default) record { within = c.requires.within; row_in_range = bound c.before; within_2 = f0core_in c; s_le_s_most = c.requires.s_le_s_most }

pub returns : goal.returns
returns c = let e : c.ram.result ≡ ram_of c.args.default c.of_good-row.result c.f0core-f0core.result c.args.s = simp (to_z-of_z, f0core-fits c.before, c.ranges.default) at c.ram.ensures in
    let k : SFits w64 c.ram.result = sfits_of c.ram.type_inv in
    to_z-of_z k ∙ cc (c.f0core-f0core.ensures, c.of_good-row.ensures)
