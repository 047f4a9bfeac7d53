-- `claimtext::published::row_length` meets its contract: a line of machine numbers is short (`row-line-most`).
use mathlib.Core.Path.{refl, sym, ◌∙◌}
use native.Mathlib.Omega.{arith}
use mir.Facts.{to_z-of_z}
use Rattle.claimtext.proofs.PublishedLaws.{row_line_long, row_line_most}
use Rattle.claimtext.proofs.published.row_length.Goals as goal

pub line_length-requires : goal.line_length-requires
line_length-requires c = simp (to_z-of_z, c.ranges.ram) (refl, omega (arith, row_line_most c.args.row c.args.ram c.ranges.row.fits c.ranges.ram.sfits))

pub returns : goal.returns
returns c = let said = simp (to_z-of_z, c.ranges.ram) at c.line_length.ensures in
    (said ∙ sym (row_line_long c.args.row c.args.ram), omega (arith, said, row_line_most c.args.row c.args.ram c.ranges.row.fits c.ranges.ram.sfits))
