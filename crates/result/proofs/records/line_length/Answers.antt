-- `result::records::line_length` meets its contract: a line of machine numbers is short (`record-most`).
use mathlib.Core.Path.{sym, ◌∙◌}
use native.Mathlib.Omega.{arith}
use mir.Facts.{to_z-of_z}
use Rattle.columns.proofs.ColumnPut.{columns_long}
use Rattle.result.proofs.RecordsLaws.{columns_three, record_most}
use Rattle.result.proofs.records.line_length.Goals as goal

pub line_length-requires : goal.line_length-requires
line_length-requires c = let short = record_most c.requires c.args.i c.args.first c.args.second c.args.third c.ranges.i.fits c.ranges.first.sfits c.ranges.second.sfits c.ranges.third.sfits in
    simp (to_z-of_z, c.ranges.first, c.ranges.second, c.ranges.third) (sym (columns_long c.args.columns.now) ∙ columns_three c.requires, omega (arith, short))

pub returns : goal.returns
returns c = let short = record_most c.requires c.args.i c.args.first c.args.second c.args.third c.ranges.i.fits c.ranges.first.sfits c.ranges.second.sfits c.ranges.third.sfits in
    let said = simp (to_z-of_z, c.ranges.first, c.ranges.second, c.ranges.third) at c.line_length.ensures in
    (said, omega (arith, said, short))
