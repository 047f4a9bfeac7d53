-- `parts::row::as_record` meets its contract: each value is that of the function called.
use mathlib.Core.Path.{◌≡◌}
use native.Mathlib.Omega.{arith}
use borrow.Author.Rules.{sfits_of}
use lib.IntN.{pos}
use mir.Facts.{to_z_pos, to_z-of_z}
use mir.Syntax.{w64}
use mir.Val.{SFits}
use Rattle.numbers.proofs.IntLaws.{within_fits, within_le}
use Rattle.marginrules.specs.Margin.{amr_of}
use Rattle.marginrules.proofs.MagnitudeLaws.{within_is, within_amr}
use Rattle.parts.proofs.row.as_record.Goals as goal

pub lta_margin-lta_margin-requires : goal.lta_margin-lta_margin-requires
lta_margin-lta_margin-requires c = let is : c.amr-amr.result ≡ amr_of c.args.default c.args.row c.args.f0core = simp (to_z-of_z, c.ranges.default, c.ranges.f0core) at c.amr-amr.ensures in
    let fits : SFits w64 c.amr-amr.result = sfits_of c.amr-amr.type_inv in
    simp (to_z-of_z, c.ranges.f0core, fits) record { row_in_range = c.requires.row_in_range; within = c.requires.within_2; within_2 = within_is is (within_amr c.requires.row_in_range c.requires.within_2 c.requires.within); s_le_s_most = c.requires.s_le_s_most.0 }

pub grains-cva-requires : goal.grains-cva-requires
grains-cva-requires c = simp (to_z-of_z, within_fits c.requires.row_in_range.cva_in tt) (within_le c.requires.row_in_range.cva_in (omega arith))

pub grains-iva-requires : goal.grains-iva-requires
grains-iva-requires c = simp (to_z-of_z, within_fits c.requires.row_in_range.iva_in tt) (within_le c.requires.row_in_range.iva_in (omega arith))

pub overflow_cast-result : goal.overflow_cast-result
overflow_cast-result c = record { sfits = omega (arith, c.requires.s_le_s_most.2) }

pub overflow_cast-result-2 : goal.overflow_cast-result-2
overflow_cast-result-2 c = record { sfits = omega (arith, c.requires.s_le_s_most.1) }

pub overflow_cast-result-3 : goal.overflow_cast-result-3
overflow_cast-result-3 c = record { sfits = omega (arith, c.requires.s_le_s_most.0) }

pub returns : goal.returns
returns c = let cast-t15 : SFits w64 (pos c.args.state) = record { sfits = omega (arith, c.requires.s_le_s_most.2) } in
    let cast-t16 : SFits w64 (pos c.args.n) = record { sfits = omega (arith, c.requires.s_le_s_most.1) } in
    let cast-t17 : SFits w64 (pos c.args.s) = record { sfits = omega (arith, c.requires.s_le_s_most.0) } in
    let fuaf-fits : SFits w64 c.fuaf-fuaf.result = sfits_of c.fuaf-fuaf.type_inv in
    let base-fits : SFits w64 c.base-base.result = sfits_of c.base-base.type_inv in
    let amr-fits : SFits w64 c.amr-amr.result = sfits_of c.amr-amr.type_inv in
    let lta-fits : SFits w64 c.lta_margin-lta_margin.result = sfits_of c.lta_margin-lta_margin.type_inv in
    let cva-fits : SFits w64 c.grains-cva.result = sfits_of c.grains-cva.type_inv in
    let iva-fits : SFits w64 c.grains-iva.result = sfits_of c.grains-iva.type_inv in
    let fuaf = simp (to_z-of_z, c.ranges.f0core) at c.fuaf-fuaf.ensures in
    let base = simp (to_z-of_z, c.ranges.f0core) at c.base-base.ensures in
    let amr = simp (to_z-of_z, c.ranges.default, c.ranges.f0core) at c.amr-amr.ensures in
    let lta = simp (to_z-of_z, c.ranges.f0core, amr-fits) at c.lta_margin-lta_margin.ensures in
    let cva = simp (to_z-of_z, within_fits c.requires.row_in_range.cva_in tt) at c.grains-cva.ensures in
    let iva = simp (to_z-of_z, within_fits c.requires.row_in_range.iva_in tt) at c.grains-iva.ensures in
    rw (
      to_z_pos w64 cast-t15.sfits,
      to_z_pos w64 cast-t16.sfits,
      to_z_pos w64 cast-t17.sfits,
      to_z-of_z {w = w64} c.ranges.f0core,
      to_z-of_z fuaf-fits,
      to_z-of_z base-fits,
      to_z-of_z amr-fits,
      to_z-of_z lta-fits,
      to_z-of_z {w = w64} cva-fits,
      to_z-of_z iva-fits,
      to_z-of_z {w = w64} c.ranges.ram,
      to_z-of_z {w = w64} c.ranges.start,
      fuaf,
      base,
      lta,
      amr,
      cva,
      iva,
    )
