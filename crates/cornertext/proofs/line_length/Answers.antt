-- `cornertext::line_length` meets its contract: a line of machine numbers is short (`corner-line-most`).
use mathlib.Core.Path.{refl, sym, ◌∙◌}
use native.Mathlib.Omega.{arith}
use mir.Facts.{to_z-of_z}
use Rattle.text.proofs.FieldLaws.{read_back}
use Rattle.cornertext.proofs.CornerTextLaws.{corner_line_is, corner_line_most}
use Rattle.cornertext.proofs.line_length.Goals as goal

pub line_length-requires : goal.line_length-requires
line_length-requires c = let is = corner_line_is c.args.row c.args.corner c.args.flow in
    let most = corner_line_most c.args.row c.args.corner c.args.flow c.ranges.row.fits c.requires c.ranges.flow.sfits in
    simp (to_z-of_z, c.ranges.flow, read_back c.args.corner (omega (arith, c.requires))) (refl, omega (arith, is, most))

pub returns : goal.returns
returns c = let is = corner_line_is c.args.row c.args.corner c.args.flow in
    let most = corner_line_most c.args.row c.args.corner c.args.flow c.ranges.row.fits c.requires c.ranges.flow.sfits in
    let said = simp (to_z-of_z, c.ranges.flow, read_back c.args.corner (omega (arith, c.requires))) at c.line_length.ensures in
    (said ∙ sym is, omega (arith, said, is, most))
