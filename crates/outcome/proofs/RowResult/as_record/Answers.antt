-- `outcome::RowResult::as_record` meets its contract.
use native.Mathlib.Omega.{arith}
use borrow.Author.Rules.{sfits_of}
use mir.Facts.{to_z_pos, to_z-of_z}
use mir.Syntax.{w64}
use Rattle.numbers.proofs.IntLaws.{plain}
use Rattle.outcome.proofs.RowResult.as_record.Goals as goal

pub margin_left-requires : goal.margin_left-requires
margin_left-requires c = c.requires.1

pub overflow_cast-result : goal.overflow_cast-result
overflow_cast-result c = record { sfits = omega (arith, c.requires.0) }

pub returns : goal.returns
returns c = rw (to_z_pos w64 {n = c.args.self.state} (omega (arith, c.requires.0)), plain c.args.self.ram c.struct_told-1.given.1.0.1, to_z-of_z {w = w64} (sfits_of c.margin_left.type_inv), c.margin_left.ensures)
