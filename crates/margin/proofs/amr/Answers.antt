-- `margin::amr` meets its contract.
use mathlib.Core.Path.{◌≡◌, ◌∙◌}
use Prim.Native.Nat.{◌+◌, ◌*◌}
use native.Mathlib.Nat.{le_refl}
use borrow.Author.Rules.{sfits_of}
use lib.IntN.{ℤ, pos, ◌-ℤ◌, ◌*ℤ◌}
use mir.Facts.{to_z-of_z}
use mir.Syntax.{w64}
use mir.Val.{SFits}
use Rattle.numbers.specs.Ints.{Within, max_ℤ}
use Rattle.numbers.proofs.IntLaws.{within_fits, within_mul, within_pos}
use Rattle.types.specs.LineLimits.{fmax_most, flow_most, share_most}
use Rattle.types.specs.Ranges.{worth}
use Rattle.marginrules.specs.Margin.{fuaf_of, base_of, amr_of}
use Rattle.marginrules.specs.Magnitudes.{f0core_most}
use Rattle.marginrules.proofs.MagnitudeLaws.{within_is, within_sub, within_fifth, within_fuaf, within_base}
use Rattle.margin.proofs.amr.Goals as goal

pub overflow_mul-r : goal.overflow_mul-r
overflow_mul-r c = let fmax : ℤ = c.args.row.fmax in
    let fmax-fits : SFits w64 fmax = within_fits c.requires.row_in_range.fmax_in tt in
    let r : ℤ = c.worth-r.result in
    let r-fits : SFits w64 r = sfits_of c.worth-r.type_inv in
    let r-is : r ≡ worth c.args.default c.args.row.share = simp (to_z-of_z, c.ranges.default) at c.worth-r.ensures in
    let r-in : Within share_most r = within_is r-is (c.requires.row_in_range.share_in _ c.requires.within) in
    let product_fits : SFits w64 (r *ℤ fmax) = within_fits (within_mul r-in c.requires.row_in_range.fmax_in) tt in
    simp (to_z-of_z, r-fits, fmax-fits) product_fits

pub overflow_mul-r-2 : goal.overflow_mul-r-2
overflow_mul-r-2 c = let fmax : ℤ = c.args.row.fmax in
    let fmax-fits : SFits w64 fmax = within_fits c.requires.row_in_range.fmax_in tt in
    let r : ℤ = c.worth-r.result in
    let r-fits : SFits w64 r = sfits_of c.worth-r.type_inv in
    let r-is : r ≡ worth c.args.default c.args.row.share = simp (to_z-of_z, c.ranges.default) at c.worth-r.ensures in
    let r-in : Within share_most r = within_is r-is (c.requires.row_in_range.share_in _ c.requires.within) in
    let product_fits : SFits w64 (r *ℤ fmax) = within_fits (within_mul r-in c.requires.row_in_range.fmax_in) tt in
    let share_in : Within (share_most * fmax_most * 10) (r *ℤ fmax *ℤ pos 10) = within_mul (within_mul r-in c.requires.row_in_range.fmax_in) (within_pos (le_refl 10)) in
    let share_fits : SFits w64 (r *ℤ fmax *ℤ pos 10) = within_fits share_in tt in
    simp (to_z-of_z, r-fits, fmax-fits, product_fits) share_fits

pub overflow_sub-r : goal.overflow_sub-r
overflow_sub-r c = let fmax : ℤ = c.args.row.fmax in
    let fmax-fits : SFits w64 fmax = within_fits c.requires.row_in_range.fmax_in tt in
    let r : ℤ = c.worth-r.result in
    let r-fits : SFits w64 r = sfits_of c.worth-r.type_inv in
    let u : ℤ = c.fuaf-fuaf.result in
    let u-fits : SFits w64 u = sfits_of c.fuaf-fuaf.type_inv in
    let r-is : r ≡ worth c.args.default c.args.row.share = simp (to_z-of_z, c.ranges.default) at c.worth-r.ensures in
    let r-in : Within share_most r = within_is r-is (c.requires.row_in_range.share_in _ c.requires.within) in
    let product_fits : SFits w64 (r *ℤ fmax) = within_fits (within_mul r-in c.requires.row_in_range.fmax_in) tt in
    let share_in : Within (share_most * fmax_most * 10) (r *ℤ fmax *ℤ pos 10) = within_mul (within_mul r-in c.requires.row_in_range.fmax_in) (within_pos (le_refl 10)) in
    let share_fits : SFits w64 (r *ℤ fmax *ℤ pos 10) = within_fits share_in tt in
    let u-is : u ≡ fuaf_of c.args.row c.args.f0core = simp (to_z-of_z, c.ranges.f0core) at c.fuaf-fuaf.ensures in
    let u-in : Within (f0core_most + flow_most * 100000) u = within_is u-is (within_fuaf c.requires.row_in_range c.requires.within_2) in
    let less-fits : SFits w64 (r *ℤ fmax *ℤ pos 10 -ℤ u) = within_fits (within_sub share_in u-in) tt in
    simp (to_z-of_z, r-fits, fmax-fits, u-fits, product_fits, share_fits) less-fits

pub overflow_sub-r-2 : goal.overflow_sub-r-2
overflow_sub-r-2 c = let fmax : ℤ = c.args.row.fmax in
    let fmax-fits : SFits w64 fmax = within_fits c.requires.row_in_range.fmax_in tt in
    let r : ℤ = c.worth-r.result in
    let r-fits : SFits w64 r = sfits_of c.worth-r.type_inv in
    let u : ℤ = c.fuaf-fuaf.result in
    let u-fits : SFits w64 u = sfits_of c.fuaf-fuaf.type_inv in
    let b : ℤ = c.base-base.result in
    let b-fits : SFits w64 b = sfits_of c.base-base.type_inv in
    let r-is : r ≡ worth c.args.default c.args.row.share = simp (to_z-of_z, c.ranges.default) at c.worth-r.ensures in
    let r-in : Within share_most r = within_is r-is (c.requires.row_in_range.share_in _ c.requires.within) in
    let product_fits : SFits w64 (r *ℤ fmax) = within_fits (within_mul r-in c.requires.row_in_range.fmax_in) tt in
    let share_in : Within (share_most * fmax_most * 10) (r *ℤ fmax *ℤ pos 10) = within_mul (within_mul r-in c.requires.row_in_range.fmax_in) (within_pos (le_refl 10)) in
    let share_fits : SFits w64 (r *ℤ fmax *ℤ pos 10) = within_fits share_in tt in
    let u-is : u ≡ fuaf_of c.args.row c.args.f0core = simp (to_z-of_z, c.ranges.f0core) at c.fuaf-fuaf.ensures in
    let u-in : Within (f0core_most + flow_most * 100000) u = within_is u-is (within_fuaf c.requires.row_in_range c.requires.within_2) in
    let less-fits : SFits w64 (r *ℤ fmax *ℤ pos 10 -ℤ u) = within_fits (within_sub share_in u-in) tt in
    let b-is : b ≡ base_of c.args.row c.args.f0core = simp (to_z-of_z, c.ranges.f0core) at c.base-base.ensures in
    let b-in : Within (fmax_most * 100000 + fmax_most * 100000 + f0core_most) b = within_is b-is (within_base c.requires.row_in_range c.requires.within_2) in
    let first_fits : SFits w64 (r *ℤ fmax *ℤ pos 10 -ℤ u -ℤ b) = within_fits (within_sub (within_sub share_in u-in) b-in) tt in
    simp (to_z-of_z, r-fits, fmax-fits, u-fits, b-fits, product_fits, share_fits, less-fits) first_fits

pub overflow_mul-row : goal.overflow_mul-row
overflow_mul-row c = let fmax : ℤ = c.args.row.fmax in
    let fmax-fits : SFits w64 fmax = within_fits c.requires.row_in_range.fmax_in tt in
    let fifth-fits : SFits w64 (fmax *ℤ pos 20000) = within_fits (within_fifth c.requires.row_in_range) tt in
    simp (to_z-of_z, fmax-fits) fifth-fits

pub overflow_sub-row : goal.overflow_sub-row
overflow_sub-row c = let fmax : ℤ = c.args.row.fmax in
    let fmax-fits : SFits w64 fmax = within_fits c.requires.row_in_range.fmax_in tt in
    let b : ℤ = c.base-base.result in
    let b-fits : SFits w64 b = sfits_of c.base-base.type_inv in
    let fifth-fits : SFits w64 (fmax *ℤ pos 20000) = within_fits (within_fifth c.requires.row_in_range) tt in
    let b-is : b ≡ base_of c.args.row c.args.f0core = simp (to_z-of_z, c.ranges.f0core) at c.base-base.ensures in
    let b-in : Within (fmax_most * 100000 + fmax_most * 100000 + f0core_most) b = within_is b-is (within_base c.requires.row_in_range c.requires.within_2) in
    let second_fits : SFits w64 (fmax *ℤ pos 20000 -ℤ b) = within_fits (within_sub (within_fifth c.requires.row_in_range) b-in) tt in
    simp (to_z-of_z, fmax-fits, b-fits, fifth-fits) second_fits

pub returns : goal.returns
unfolding amr_of
returns c = let r : ℤ = c.worth-r.result in
    let fmax : ℤ = c.args.row.fmax in
    let u : ℤ = c.fuaf-fuaf.result in
    let b : ℤ = c.base-base.result in
    let r-is : r ≡ worth c.args.default c.args.row.share = simp (to_z-of_z, c.ranges.default) at c.worth-r.ensures in
    let u-is : u ≡ fuaf_of c.args.row c.args.f0core = simp (to_z-of_z, c.ranges.f0core) at c.fuaf-fuaf.ensures in
    let b-is : b ≡ base_of c.args.row c.args.f0core = simp (to_z-of_z, c.ranges.f0core) at c.base-base.ensures in
    let fmax-fits : SFits w64 fmax = within_fits c.requires.row_in_range.fmax_in tt in
    let r-fits : SFits w64 r = sfits_of c.worth-r.type_inv in
    let u-fits : SFits w64 u = sfits_of c.fuaf-fuaf.type_inv in
    let b-fits : SFits w64 b = sfits_of c.base-base.type_inv in
    let r-in : Within share_most r = within_is r-is (c.requires.row_in_range.share_in _ c.requires.within) in
    let product_fits : SFits w64 (r *ℤ fmax) = within_fits (within_mul r-in c.requires.row_in_range.fmax_in) tt in
    let share_in : Within (share_most * fmax_most * 10) (r *ℤ fmax *ℤ pos 10) = within_mul (within_mul r-in c.requires.row_in_range.fmax_in) (within_pos (le_refl 10)) in
    let share_fits : SFits w64 (r *ℤ fmax *ℤ pos 10) = within_fits share_in tt in
    let u-in : Within (f0core_most + flow_most * 100000) u = within_is u-is (within_fuaf c.requires.row_in_range c.requires.within_2) in
    let less-fits : SFits w64 (r *ℤ fmax *ℤ pos 10 -ℤ u) = within_fits (within_sub share_in u-in) tt in
    let b-in : Within (fmax_most * 100000 + fmax_most * 100000 + f0core_most) b = within_is b-is (within_base c.requires.row_in_range c.requires.within_2) in
    let first_fits : SFits w64 (r *ℤ fmax *ℤ pos 10 -ℤ u -ℤ b) = within_fits (within_sub (within_sub share_in u-in) b-in) tt in
    let fifth-fits : SFits w64 (fmax *ℤ pos 20000) = within_fits (within_fifth c.requires.row_in_range) tt in
    let second_fits : SFits w64 (fmax *ℤ pos 20000 -ℤ b) = within_fits (within_sub (within_fifth c.requires.row_in_range) b-in) tt in
    let k1 : SFits w64 c.larger.result = sfits_of c.larger.type_inv in
    let k2 : SFits w64 c.larger-2.result = sfits_of c.larger-2.type_inv in
    let e1 : c.larger.result ≡ max_ℤ (r *ℤ fmax *ℤ pos 10 -ℤ u -ℤ b) (fmax *ℤ pos 20000 -ℤ b) =
    simp (to_z-of_z, r-fits, fmax-fits, u-fits, b-fits, product_fits, share_fits, less-fits, first_fits, fifth-fits, second_fits) at c.larger.ensures in
    let e2 : c.larger-2.result ≡ max_ℤ c.larger.result (pos 0) = simp (to_z-of_z, k1) at c.larger-2.ensures in
    to_z-of_z k2 ∙ cc (r-is, u-is, b-is)
