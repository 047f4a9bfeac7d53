-- `types::Share::worth` meets its contract.
use mir.Syntax.{w64}
use mathlib.Core.Path.{sym, ap, ◌∙◌}
use mir.Facts.{to_z-of_z}
use Rattle.numbers.proofs.IntLaws.{plain}
use Rattle.types.specs.Ranges.{worth}
use Rattle.types.proofs.Share.worth.Goals as goal

pub returns-in-Standard : goal.returns-in-Standard
unfolding worth
returns-in-Standard c = to_z-of_z {w = w64} c.ranges.default ∙ sym (ap (worth _) c.in-Standard.is)

pub returns-in-Written : goal.returns-in-Written
unfolding worth
returns-in-Written c = plain _ c.in-Written.known_told-1-own.given.0.1 ∙ sym (ap (worth _) c.in-Written.is)
