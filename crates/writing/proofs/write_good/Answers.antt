-- `writing::write_good` meets its contract: each front part is as long as the header says; too short (`text-short`), or the text and then what stood there
-- (`text-written`).
use mathlib.Core.Path.{sym}
use native.Mathlib.Omega.{arith}
use Rattle.text.proofs.LeftLaws.{text_short, text_written}
use Rattle.tablerules.specs.Table.{lent_view, front}
use Rattle.tablerules.proofs.RoomLaws.{factors_most}
use Rattle.writing.specs.Writing.{table_text}
use Rattle.writing.proofs.write_good.Goals as goal

pub slice_bounds-whole-end-2 : goal.slice_bounds-whole-end-2
slice_bounds-whole-end-2 c = rw c.allocated_items.ensures (sym c.requires.exact.allocated_long)

pub overflow_mul-whole : goal.overflow_mul-whole
overflow_mul-whole c = omega (arith, factors_most _ c.requires.exact.header)

pub text_length-needed-requires : goal.text_length-needed-requires
text_length-needed-requires c = rw c.allocated_items.ensures c.requires

pub returns-then-out-needed : goal.returns-then-out-needed
returns-then-out-needed c = text_short (table_text (front (lent_view c.args.view.now))) _ _ (rw c.allocated_items.ensures at c.text_length-needed.ensures) (omega arith)

pub put_table-requires : goal.put_table-requires
put_table-requires c = (rw c.allocated_items.ensures c.requires, omega (arith, c.text_length-needed.ensures))

pub returns : goal.returns
returns c =
    let long = rw c.allocated_items.ensures at c.text_length-needed.ensures in
    text_written (table_text (front (lent_view c.args.view.now))) _ (omega (arith, long)) (rw c.allocated_items.ensures at c.put_table.ensures)
