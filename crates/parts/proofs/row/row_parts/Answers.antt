-- `parts::row::row_parts` meets its contract.
use mathlib.Core.Path.{◌∙◌}
use native.Mathlib.Omega.{arith}
use borrow.Author.Rules.{sfits_of}
use mir.Facts.{to_z-of_z}
use mir.Syntax.{w64}
use mir.Val.{SFits}
use Rattle.limits.specs.Limits.{zones_most}
use Rattle.marginrules.proofs.MagnitudeLaws.{within_is, within_f0core}
use Rattle.marginrules.proofs.JudgedLaws.{row_judged, s_bound}
use Rattle.parts.proofs.PartsLaws.{n_few, made_of}
use Rattle.parts.proofs.row.row_parts.Goals as goal

pub of_good-row-requires : goal.of_good-row-requires
of_good-row-requires c = c.requires.raw_value

pub f0core-f0core-requires : goal.f0core-f0core-requires
f0core-f0core-requires c = record { row_in_range = row_judged _ c.requires.raw_value c.of_good-row.ensures; factors_in_range = c.requires.factors_in_range; nets_in_range = c.requires.nets_in_range }

pub s-s-requires : goal.s-s-requires
s-s-requires c = record { factors_in_range = c.requires.factors_in_range; borders_in_range = c.requires.borders_in_range }

pub count_loading-n-requires : goal.count_loading-n-requires
count_loading-n-requires c = record { factors_in_range = c.requires.factors_in_range; borders_in_range = c.requires.borders_in_range }

pub as_record-requires : goal.as_record-requires
as_record-requires c = let row = row_judged _ c.requires.raw_value c.of_good-row.ensures in
    let f0core = within_is c.f0core-f0core.ensures (within_f0core _ row.fref_in _ _ c.requires.nets_in_range.few c.requires.factors_in_range.each c.requires.nets_in_range.each zones_most (omega (arith, c.requires.nets_in_range.few, c.requires.factors_in_range.few))) in
    let fits : SFits w64 c.f0core-f0core.result = sfits_of c.f0core-f0core.type_inv in
    simp (to_z-of_z, fits, c.ranges.default)
    record { within = c.requires.within; row_in_range = row; within_2 = f0core; s_le_s_most = (s_bound c.requires.factors_in_range c.requires.borders_in_range c.s-s.ensures, n_few _ c.requires.borders_in_range c.count_loading-n.ensures, c.requires.state_bound) }

pub returns : goal.returns
returns c = let fits : SFits w64 c.f0core-f0core.result = sfits_of c.f0core-f0core.type_inv in
    (simp (to_z-of_z, fits, c.ranges.default, c.ranges.ram, c.ranges.start) at c.as_record.ensures) ∙ made_of _ _ _ _ _ _ _ _ c.of_good-row.ensures c.f0core-f0core.ensures c.s-s.ensures c.count_loading-n.ensures
