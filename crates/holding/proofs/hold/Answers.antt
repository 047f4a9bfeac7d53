-- `holding::hold` meets its contract: each number fits.
use borrow.Author.Rules.{sfits_of}
use mir.Facts.{to_z_pos, to_z-of_z}
use mir.Syntax.{w64}
use Rattle.holding.proofs.hold.Goals as goal

pub returns : goal.returns
returns c = rw (to_z_pos w64 c.requires.0, to_z-of_z {w = w64} (sfits_of c.margin_left.type_inv), c.margin_left.ensures, to_z-of_z {w = w64} (sfits_of c.allow.type_inv), c.allow.ensures)
