use native.Mathlib.Omega.{arith}
use lib.ListN.{length}
use lib.Pow.{pow_pos}
use mir.Facts.{to_z-of_z}
use mir.Syntax.{w64}
use mir.Val.{SFits}
use Rattle.numbers.specs.Ints.{Within}
use Rattle.numbers.proofs.IntLaws.{within_fits}
use Rattle.cornerrules.specs.Listed.{part_most}
use Rattle.cornerrules.proofs.ListedLaws.{list_none, part_of_within, room_used, within_used, list_more}
use Rattle.corners.proofs.+list_corners.Goals as goal

pub returns-then-left-eq0 : goal.returns-then-left-eq0
returns-then-left-eq0 t c =
    list_none c.args.factors.now c.args.borders.now c.if-left-eq0.true (omega (arith, pow_pos (length c.args.borders.now), c.requires.borders_in_bounds))

pub list_used-requires : goal.list_used-requires
list_used-requires t c =
    let fs = c.args.factors.now in
    let bs = c.args.borders.now in
    let some = c.if-left-eq0.false in
    let part_in : Within part_most c.corner_part-part.result =
    rw c.corner_part-part.ensures (part_of_within fs bs c.requires.borders_len_bound c.requires.factors_in_range c.requires.borders_in_range _ (omega arith)) in
    record {
      within = simp (to_z-of_z, within_fits part_in tt) part_in;
      all_within = within_used fs bs some c.requires.borders_in_bounds c.list_corners-count.ensures c.requires.borders_len_bound c.requires.factors_in_range c.requires.borders_in_range;
      count_in_bounds = room_used fs bs some c.requires.borders_in_bounds c.list_corners-count.ensures;
    }

pub returns : goal.returns
returns t c =
    let fs = c.args.factors.now in
    let bs = c.args.borders.now in
    let part_in : Within part_most c.corner_part-part.result =
    rw c.corner_part-part.ensures (part_of_within fs bs c.requires.borders_len_bound c.requires.factors_in_range c.requires.borders_in_range _ (omega arith)) in
    let part_fits : SFits w64 c.corner_part-part.result = within_fits part_in tt in
    list_more fs bs c.if-left-eq0.false c.requires.borders_in_bounds c.list_corners-count.ensures c.corner_part-part.ensures
    (simp (to_z-of_z, part_fits) at c.list_used.ensures)
