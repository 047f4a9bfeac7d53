-- `margin::ram` meets its contract.
use mathlib.Core.Path.{◌≡◌}
use Prim.Native.Nat.{◌+◌, ◌*◌}
use native.Mathlib.Omega.{arith}
use borrow.Author.Rules.{sfits_of}
use lib.IntN.{ℤ, ◌+ℤ◌, ◌-ℤ◌}
use mir.Facts.{to_z-of_z}
use mir.Syntax.{w64}
use mir.Val.{SFits}
use Rattle.numbers.specs.Ints.{Within}
use Rattle.numbers.proofs.IntLaws.{within_fits, within_le, within_add}
use Rattle.types.specs.LineLimits.{fmax_most}
use Rattle.marginrules.specs.Margin.{grains, base_of, amr_of, lta_margin_of, ram_of}
use Rattle.marginrules.specs.Magnitudes.{f0core_most, amr_most, s_most}
use Rattle.marginrules.proofs.MagnitudeLaws.{within_is, within_sub, within_grains, within_base, within_amr, within_lta_margin}
use Rattle.margin.proofs.ram.Goals as goal

pub lta_margin-lta_margin-requires : goal.lta_margin-lta_margin-requires
lta_margin-lta_margin-requires c = let a-is : c.amr-amr.result ≡ amr_of c.args.default c.args.row c.args.f0core = simp (to_z-of_z, c.ranges.default, c.ranges.f0core) at c.amr-amr.ensures in
    let a_in : Within amr_most c.amr-amr.result = within_is a-is (within_amr c.requires.row_in_range c.requires.within_2 c.requires.within) in
    let a-fits : SFits w64 c.amr-amr.result = sfits_of c.amr-amr.type_inv in
    simp (to_z-of_z, c.ranges.f0core, a-fits) record { row_in_range = c.requires.row_in_range; within = c.requires.within_2; within_2 = a_in; s_le_s_most = c.requires.s_le_s_most }

pub grains-cva-requires : goal.grains-cva-requires
grains-cva-requires c = simp (to_z-of_z, within_fits c.requires.row_in_range.cva_in tt) (within_le c.requires.row_in_range.cva_in (omega arith))

pub grains-iva-requires : goal.grains-iva-requires
grains-iva-requires c = simp (to_z-of_z, within_fits c.requires.row_in_range.iva_in tt) (within_le c.requires.row_in_range.iva_in (omega arith))

pub overflow_add-result : goal.overflow_add-result
overflow_add-result c = let b-fits : SFits w64 c.base-base.result = sfits_of c.base-base.type_inv in
    let a-fits : SFits w64 c.amr-amr.result = sfits_of c.amr-amr.type_inv in
    let b-is : c.base-base.result ≡ base_of c.args.row c.args.f0core = simp (to_z-of_z, c.ranges.f0core) at c.base-base.ensures in
    let b-in : Within (fmax_most * 100000 + fmax_most * 100000 + f0core_most) c.base-base.result = within_is b-is (within_base c.requires.row_in_range c.requires.within_2) in
    let a-is : c.amr-amr.result ≡ amr_of c.args.default c.args.row c.args.f0core = simp (to_z-of_z, c.ranges.default, c.ranges.f0core) at c.amr-amr.ensures in
    let a_in : Within amr_most c.amr-amr.result = within_is a-is (within_amr c.requires.row_in_range c.requires.within_2 c.requires.within) in
    let b : ℤ = c.base-base.result in
    let a : ℤ = c.amr-amr.result in
    let with-amr : SFits w64 (b +ℤ a) = within_fits (within_add b-in a_in) tt in
    simp (to_z-of_z, b-fits, a-fits) with-amr

pub overflow_add-result-2 : goal.overflow_add-result-2
overflow_add-result-2 c = let b-fits : SFits w64 c.base-base.result = sfits_of c.base-base.type_inv in
    let a-fits : SFits w64 c.amr-amr.result = sfits_of c.amr-amr.type_inv in
    let l-fits : SFits w64 c.lta_margin-lta_margin.result = sfits_of c.lta_margin-lta_margin.type_inv in
    let b-is : c.base-base.result ≡ base_of c.args.row c.args.f0core = simp (to_z-of_z, c.ranges.f0core) at c.base-base.ensures in
    let b-in : Within (fmax_most * 100000 + fmax_most * 100000 + f0core_most) c.base-base.result = within_is b-is (within_base c.requires.row_in_range c.requires.within_2) in
    let a-is : c.amr-amr.result ≡ amr_of c.args.default c.args.row c.args.f0core = simp (to_z-of_z, c.ranges.default, c.ranges.f0core) at c.amr-amr.ensures in
    let a_in : Within amr_most c.amr-amr.result = within_is a-is (within_amr c.requires.row_in_range c.requires.within_2 c.requires.within) in
    let b : ℤ = c.base-base.result in
    let a : ℤ = c.amr-amr.result in
    let with-amr : SFits w64 (b +ℤ a) = within_fits (within_add b-in a_in) tt in
    let l-is : c.lta_margin-lta_margin.result ≡ lta_margin_of c.args.row c.args.f0core c.amr-amr.result c.args.s = simp (to_z-of_z, c.ranges.f0core, a-fits) at c.lta_margin-lta_margin.ensures in
    let l-in : Within (f0core_most + s_most + fmax_most * 100000 + amr_most + fmax_most * 100000) c.lta_margin-lta_margin.result = within_is l-is (within_lta_margin c.requires.row_in_range c.requires.within_2 a_in c.requires.s_le_s_most) in
    let l : ℤ = c.lta_margin-lta_margin.result in
    let with-lta : SFits w64 (b +ℤ a +ℤ l) = within_fits (within_add (within_add b-in a_in) l-in) tt in
    simp (to_z-of_z, b-fits, a-fits, l-fits, with-amr) with-lta

pub overflow_sub-result : goal.overflow_sub-result
overflow_sub-result c = let b-fits : SFits w64 c.base-base.result = sfits_of c.base-base.type_inv in
    let a-fits : SFits w64 c.amr-amr.result = sfits_of c.amr-amr.type_inv in
    let l-fits : SFits w64 c.lta_margin-lta_margin.result = sfits_of c.lta_margin-lta_margin.type_inv in
    let cva : ℤ = c.grains-cva.result in
    let cva-fits : SFits w64 cva = sfits_of c.grains-cva.type_inv in
    let b-is : c.base-base.result ≡ base_of c.args.row c.args.f0core = simp (to_z-of_z, c.ranges.f0core) at c.base-base.ensures in
    let b-in : Within (fmax_most * 100000 + fmax_most * 100000 + f0core_most) c.base-base.result = within_is b-is (within_base c.requires.row_in_range c.requires.within_2) in
    let a-is : c.amr-amr.result ≡ amr_of c.args.default c.args.row c.args.f0core = simp (to_z-of_z, c.ranges.default, c.ranges.f0core) at c.amr-amr.ensures in
    let a_in : Within amr_most c.amr-amr.result = within_is a-is (within_amr c.requires.row_in_range c.requires.within_2 c.requires.within) in
    let b : ℤ = c.base-base.result in
    let a : ℤ = c.amr-amr.result in
    let with-amr : SFits w64 (b +ℤ a) = within_fits (within_add b-in a_in) tt in
    let l-is : c.lta_margin-lta_margin.result ≡ lta_margin_of c.args.row c.args.f0core c.amr-amr.result c.args.s = simp (to_z-of_z, c.ranges.f0core, a-fits) at c.lta_margin-lta_margin.ensures in
    let l-in : Within (f0core_most + s_most + fmax_most * 100000 + amr_most + fmax_most * 100000) c.lta_margin-lta_margin.result = within_is l-is (within_lta_margin c.requires.row_in_range c.requires.within_2 a_in c.requires.s_le_s_most) in
    let l : ℤ = c.lta_margin-lta_margin.result in
    let with-lta : SFits w64 (b +ℤ a +ℤ l) = within_fits (within_add (within_add b-in a_in) l-in) tt in
    let cva-is : cva ≡ grains c.args.row.cva = simp (to_z-of_z, within_fits c.requires.row_in_range.cva_in tt) at c.grains-cva.ensures in
    let less-cva : SFits w64 (b +ℤ a +ℤ l -ℤ cva) = within_fits
    (within_sub (within_add (within_add b-in a_in) l-in) (within_is cva-is (within_grains c.requires.row_in_range.cva_in)))
    tt in
    simp (to_z-of_z, b-fits, a-fits, l-fits, cva-fits, with-amr, with-lta) less-cva

pub overflow_sub-result-2 : goal.overflow_sub-result-2
overflow_sub-result-2 c = let b-fits : SFits w64 c.base-base.result = sfits_of c.base-base.type_inv in
    let a-fits : SFits w64 c.amr-amr.result = sfits_of c.amr-amr.type_inv in
    let l-fits : SFits w64 c.lta_margin-lta_margin.result = sfits_of c.lta_margin-lta_margin.type_inv in
    let cva : ℤ = c.grains-cva.result in
    let cva-fits : SFits w64 cva = sfits_of c.grains-cva.type_inv in
    let iva : ℤ = c.grains-iva.result in
    let iva-fits : SFits w64 iva = sfits_of c.grains-iva.type_inv in
    let b-is : c.base-base.result ≡ base_of c.args.row c.args.f0core = simp (to_z-of_z, c.ranges.f0core) at c.base-base.ensures in
    let b-in : Within (fmax_most * 100000 + fmax_most * 100000 + f0core_most) c.base-base.result = within_is b-is (within_base c.requires.row_in_range c.requires.within_2) in
    let a-is : c.amr-amr.result ≡ amr_of c.args.default c.args.row c.args.f0core = simp (to_z-of_z, c.ranges.default, c.ranges.f0core) at c.amr-amr.ensures in
    let a_in : Within amr_most c.amr-amr.result = within_is a-is (within_amr c.requires.row_in_range c.requires.within_2 c.requires.within) in
    let b : ℤ = c.base-base.result in
    let a : ℤ = c.amr-amr.result in
    let with-amr : SFits w64 (b +ℤ a) = within_fits (within_add b-in a_in) tt in
    let l-is : c.lta_margin-lta_margin.result ≡ lta_margin_of c.args.row c.args.f0core c.amr-amr.result c.args.s = simp (to_z-of_z, c.ranges.f0core, a-fits) at c.lta_margin-lta_margin.ensures in
    let l-in : Within (f0core_most + s_most + fmax_most * 100000 + amr_most + fmax_most * 100000) c.lta_margin-lta_margin.result = within_is l-is (within_lta_margin c.requires.row_in_range c.requires.within_2 a_in c.requires.s_le_s_most) in
    let l : ℤ = c.lta_margin-lta_margin.result in
    let with-lta : SFits w64 (b +ℤ a +ℤ l) = within_fits (within_add (within_add b-in a_in) l-in) tt in
    let cva-is : cva ≡ grains c.args.row.cva = simp (to_z-of_z, within_fits c.requires.row_in_range.cva_in tt) at c.grains-cva.ensures in
    let less-cva : SFits w64 (b +ℤ a +ℤ l -ℤ cva) = within_fits
    (within_sub (within_add (within_add b-in a_in) l-in) (within_is cva-is (within_grains c.requires.row_in_range.cva_in)))
    tt in
    let iva-is : iva ≡ grains c.args.row.iva = simp (to_z-of_z, within_fits c.requires.row_in_range.iva_in tt) at c.grains-iva.ensures in
    let less-iva : SFits w64 (b +ℤ a +ℤ l -ℤ cva -ℤ iva) = within_fits
    (within_sub
    (within_sub (within_add (within_add b-in a_in) l-in) (within_is cva-is (within_grains c.requires.row_in_range.cva_in)))
    (within_is iva-is (within_grains c.requires.row_in_range.iva_in)))
    tt in
    simp (to_z-of_z, b-fits, a-fits, l-fits, cva-fits, iva-fits, with-amr, with-lta, less-cva) less-iva

pub returns : goal.returns
unfolding ram_of
returns c = let b-is : c.base-base.result ≡ base_of c.args.row c.args.f0core = simp (to_z-of_z, c.ranges.f0core) at c.base-base.ensures in
    let a-is : c.amr-amr.result ≡ amr_of c.args.default c.args.row c.args.f0core = simp (to_z-of_z, c.ranges.default, c.ranges.f0core) at c.amr-amr.ensures in
    let b-fits : SFits w64 c.base-base.result = sfits_of c.base-base.type_inv in
    let a-fits : SFits w64 c.amr-amr.result = sfits_of c.amr-amr.type_inv in
    let l-is : c.lta_margin-lta_margin.result ≡ lta_margin_of c.args.row c.args.f0core c.amr-amr.result c.args.s = simp (to_z-of_z, c.ranges.f0core, a-fits) at c.lta_margin-lta_margin.ensures in
    let l-fits : SFits w64 c.lta_margin-lta_margin.result = sfits_of c.lta_margin-lta_margin.type_inv in
    let cva : ℤ = c.grains-cva.result in
    let cva-is : cva ≡ grains c.args.row.cva = simp (to_z-of_z, within_fits c.requires.row_in_range.cva_in tt) at c.grains-cva.ensures in
    let iva : ℤ = c.grains-iva.result in
    let iva-is : iva ≡ grains c.args.row.iva = simp (to_z-of_z, within_fits c.requires.row_in_range.iva_in tt) at c.grains-iva.ensures in
    let cva-fits : SFits w64 cva = sfits_of c.grains-cva.type_inv in
    let iva-fits : SFits w64 iva = sfits_of c.grains-iva.type_inv in
    let b-in : Within (fmax_most * 100000 + fmax_most * 100000 + f0core_most) c.base-base.result = within_is b-is (within_base c.requires.row_in_range c.requires.within_2) in
    let a_in : Within amr_most c.amr-amr.result = within_is a-is (within_amr c.requires.row_in_range c.requires.within_2 c.requires.within) in
    let b : ℤ = c.base-base.result in
    let a : ℤ = c.amr-amr.result in
    let with-amr : SFits w64 (b +ℤ a) = within_fits (within_add b-in a_in) tt in
    let l-in : Within (f0core_most + s_most + fmax_most * 100000 + amr_most + fmax_most * 100000) c.lta_margin-lta_margin.result = within_is l-is (within_lta_margin c.requires.row_in_range c.requires.within_2 a_in c.requires.s_le_s_most) in
    let l : ℤ = c.lta_margin-lta_margin.result in
    let with-lta : SFits w64 (b +ℤ a +ℤ l) = within_fits (within_add (within_add b-in a_in) l-in) tt in
    let less-cva : SFits w64 (b +ℤ a +ℤ l -ℤ cva) = within_fits
    (within_sub (within_add (within_add b-in a_in) l-in) (within_is cva-is (within_grains c.requires.row_in_range.cva_in)))
    tt in
    let less-iva : SFits w64 (b +ℤ a +ℤ l -ℤ cva -ℤ iva) = within_fits
    (within_sub
    (within_sub (within_add (within_add b-in a_in) l-in) (within_is cva-is (within_grains c.requires.row_in_range.cva_in)))
    (within_is iva-is (within_grains c.requires.row_in_range.iva_in)))
    tt in
    simp (to_z-of_z, b-fits, a-fits, l-fits, cva-fits, iva-fits, with-amr, with-lta, less-cva, less-iva)
    (cc (b-is, a-is, l-is, cva-is, iva-is))
