-- `outcome::BorderResult::as_record` meets its contract: each number fits.
use Prim.Native.Nat.{◌/◌}
use borrow.Author.Rules.{rules, sfits_of}
use mir.Facts.{to_z_pos, to_z-of_z}
use mir.Syntax.{w64}
use Rattle.outcome.proofs.BorderResult.as_record.Goals as goal

pub stop_row-requires : goal.stop_row-requires
stop_row-requires c = c.requires.1

pub returns : goal.returns
returns c = rw (to_z_pos w64 {n = c.args.self.kw / 1000} (search rules), to_z_pos w64 c.requires.0, to_z-of_z {w = w64} (sfits_of c.stop_row.type_inv), c.stop_row.ensures)
