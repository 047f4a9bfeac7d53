-- `printing::texts::put` meets its contract: the laws `long-printed` and `short-printed`.
use native.Mathlib.Omega.{arith}
use Rattle.output.proofs.BufferLaws.{told_printed}
use Rattle.printing.proofs.PrintedLaws.{long_printed, short_printed}
use Rattle.printing.proofs.texts.put.Goals as goal

pub returns-then-file-gt-BYTES_MOST : goal.returns-then-file-gt-BYTES_MOST
returns-then-file-gt-BYTES_MOST c = long_printed _ _ _ c.args.file.now _ _ (omega arith) c.refusal_line.ensures

pub returns : goal.returns
returns c = short_printed _ _ _ c.args.file.now _ _ (omega arith) (told_printed _ _ c.read_and_write-said.result c.read_and_write-said.ensures.fits c.read_and_write-said.ensures.left c.told.ensures)
