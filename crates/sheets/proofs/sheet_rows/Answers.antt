-- `sheets::sheet_rows` meets its contract: what its test showed, as the definition's test (`le-leb`, `lt-leb`).
use native.Mathlib.Omega.{arith}
use borrow.Author.Tests.{le-leb, lt-leb}
use Rattle.cornerrules.specs.Corners.{sheet_borders_most}
use Rattle.sheets.proofs.sheet_rows.Goals as goal

pub returns-then-h-le-BORDERS_MOST : goal.returns-then-h-le-BORDERS_MOST
returns-then-h-le-BORDERS_MOST c = rw (le-leb c.args.h.borders sheet_borders_most (omega arith))

pub returns : goal.returns
returns c = rw (lt-leb c.args.h.borders sheet_borders_most (omega arith))
