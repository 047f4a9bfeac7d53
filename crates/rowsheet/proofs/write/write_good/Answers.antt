-- `rowsheet::write::write_good` meets its contract: too short (`text_short`), or the text and then what stood there (`text_written`).
use native.Mathlib.Omega.{arith}
use Rattle.text.proofs.LeftLaws.{text_short, text_written}
use Rattle.rowsheet.specs.RowSheet.{sheet_of}
use Rattle.rowsheet.proofs.LengthLaws.{sheet_short}
use Rattle.rowsheet.proofs.write.write_good.Goals as goal

pub rows_length-needed-requires : goal.rows_length-needed-requires
rows_length-needed-requires c = (c.requires.0, c.requires.1, c.requires.2, sheet_short c.args.zones c.args.c.now c.args.f.now c.requires.0 c.requires.2 c.requires.3 c.requires.4)

pub returns-then-out-needed : goal.returns-then-out-needed
unfolding sheet_of
returns-then-out-needed c = (text_short (sheet_of c.args.zones (record { rows = c.args.c.now; factors = c.args.f.now })) c.args.out.now _ c.rows_length-needed.ensures (omega arith))

pub put_rows-requires : goal.put_rows-requires
put_rows-requires c = (c.requires.0, c.requires.1, c.requires.2, omega (arith, c.rows_length-needed.ensures))

pub returns : goal.returns
unfolding sheet_of
returns c = text_written (sheet_of c.args.zones (record { rows = c.args.c.now; factors = c.args.f.now })) c.args.out.now (omega (arith, c.rows_length-needed.ensures)) c.put_rows.ensures
