-- `margin::lta_margin` meets its contract.
use mathlib.Core.Path.{◌≡◌, ◌∙◌}
use native.Mathlib.Omega.{arith}
use borrow.Author.Rules.{sfits_of}
use lib.IntN.{ℤ, pos, ◌+ℤ◌, ◌-ℤ◌}
use mir.Facts.{to_z-of_z}
use mir.Syntax.{w64}
use mir.Val.{SFits, to_z}
use Rattle.numbers.specs.Ints.{Within, max_ℤ}
use Rattle.numbers.proofs.IntLaws.{within_fits, within_le, within_pos, read_pos, within_add}
use Rattle.marginrules.specs.Margin.{grains, lta_margin_of}
use Rattle.marginrules.specs.Magnitudes.{s_most}
use Rattle.marginrules.proofs.MagnitudeLaws.{within_is, within_sub, within_grains}
use Rattle.margin.proofs.lta_margin.Goals as goal

abbrev f0core : (c : goal.After-grains-fmax) → ℤ
f0core c = c.args.f0core

abbrev s : (c : goal.After-grains-fmax) → ℤ
s c = pos c.args.s

abbrev frm : (c : goal.After-grains-fmax) → ℤ
frm c = c.grains-frm.result

abbrev fmax : (c : goal.After-grains-fmax) → ℤ
fmax c = c.grains-fmax.result

frm-is : (c : goal.After-grains-fmax) → (frm c) ≡ grains c.args.row.frm
frm-is c = simp (to_z-of_z, within_fits c.requires.row_in_range.frm_in tt) at c.grains-frm.ensures

fmax-is : (c : goal.After-grains-fmax) → (fmax c) ≡ grains c.args.row.fmax
fmax-is c = simp (to_z-of_z, within_fits c.requires.row_in_range.fmax_in tt) at c.grains-fmax.ensures

frm-fits : (c : goal.After-grains-fmax) → SFits w64 (frm c)
frm-fits c = sfits_of c.grains-frm.type_inv

fmax-fits : (c : goal.After-grains-fmax) → SFits w64 (fmax c)
fmax-fits c = sfits_of c.grains-fmax.type_inv

s-is : (c : goal.After-grains-fmax) → to_z w64 c.args.s ≡ (s c)
s-is c = read_pos c.requires.s_le_s_most tt

s_in : (c : goal.After-grains-fmax) → Within s_most (s c)
s_in c = within_pos c.requires.s_le_s_most

with-s : (c : goal.After-grains-fmax) → SFits w64 ((f0core c) +ℤ (s c))
with-s c = within_fits (within_add c.requires.within (s_in c)) tt

with-frm : (c : goal.After-grains-fmax) → SFits w64 ((f0core c) +ℤ (s c) +ℤ (frm c))
with-frm c = within_fits (within_add (within_add c.requires.within (s_in c)) (within_is (frm-is c) (within_grains c.requires.row_in_range.frm_in))) tt

less-amr : (c : goal.After-grains-fmax) → SFits w64 ((f0core c) +ℤ (s c) +ℤ (frm c) -ℤ c.args.amr)
less-amr c = within_fits (within_sub (within_add (within_add c.requires.within (s_in c)) (within_is (frm-is c) (within_grains c.requires.row_in_range.frm_in))) c.requires.within_2) tt

less-fmax : (c : goal.After-grains-fmax) → SFits w64 ((f0core c) +ℤ (s c) +ℤ (frm c) -ℤ c.args.amr -ℤ (fmax c))
less-fmax c = within_fits
    (within_sub
    (within_sub (within_add (within_add c.requires.within (s_in c)) (within_is (frm-is c) (within_grains c.requires.row_in_range.frm_in))) c.requires.within_2)
    (within_is (fmax-is c) (within_grains c.requires.row_in_range.fmax_in)))
    tt

pub grains-frm-requires : goal.grains-frm-requires
grains-frm-requires c = simp (to_z-of_z, within_fits c.requires.row_in_range.frm_in tt) (within_le c.requires.row_in_range.frm_in (omega arith))

pub grains-fmax-requires : goal.grains-fmax-requires
grains-fmax-requires c = simp (to_z-of_z, within_fits c.requires.row_in_range.fmax_in tt) (within_le c.requires.row_in_range.fmax_in (omega arith))

pub overflow_add-f0core : goal.overflow_add-f0core
overflow_add-f0core c = simp (to_z-of_z, s-is c, c.ranges.f0core) (with-s c)

pub overflow_add-f0core-2 : goal.overflow_add-f0core-2
overflow_add-f0core-2 c = simp (to_z-of_z, s-is c, c.ranges.f0core, frm-fits c, with-s c) (with-frm c)

pub overflow_sub-f0core : goal.overflow_sub-f0core
overflow_sub-f0core c = simp (to_z-of_z, s-is c, c.ranges.f0core, c.ranges.amr, frm-fits c, with-s c, with-frm c) (less-amr c)

pub overflow_sub-f0core-2 : goal.overflow_sub-f0core-2
overflow_sub-f0core-2 c = simp (to_z-of_z, s-is c, c.ranges.f0core, c.ranges.amr, frm-fits c, fmax-fits c, with-s c, with-frm c, less-amr c) (less-fmax c)

pub returns : goal.returns
unfolding lta_margin_of
returns c = let k : SFits w64 c.larger.result = sfits_of c.larger.type_inv in
    let e : c.larger.result ≡ max_ℤ (f0core c.before +ℤ s c.before +ℤ frm c.before -ℤ c.args.amr -ℤ fmax c.before) (pos 0) =
    simp (to_z-of_z, s-is c.before, c.ranges.f0core, c.ranges.amr, frm-fits c.before, fmax-fits c.before, with-s c.before, with-frm c.before, less-amr c.before, less-fmax c.before) at c.larger.ensures in
    to_z-of_z k ∙ cc (frm-is c.before, fmax-is c.before)
