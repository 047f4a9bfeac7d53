-- `tidy::line::is_row` meets its contract: the bytes that part a line's fields are those of the line (`any_ended`).
use mathlib.Core.Path.{refl}
use Rattle.std.proofs.Common.{rules}
use Rattle.text.specs.Fields.{tab}
use Rattle.tidyrules.specs.Tidied.{semicolon}
use Rattle.tidy.proofs.FieldsLeft.{any_ended}
use Rattle.tidy.proofs.line.is_row.Goals as goal

pub returns-then-contains : goal.returns-then-contains
returns-then-contains c = rw (any_ended semicolon refl c.args.line.now, any_ended tab refl c.args.line.now) (search rules)

pub returns-else-contains : goal.returns-else-contains
returns-else-contains c = rw (any_ended semicolon refl c.args.line.now, any_ended tab refl c.args.line.now) (search rules)
