-- `sheets::print_in` is safe: a table that was read is good (`into-good`).
use Rattle.reading.proofs.IntoLaws.{into_good}
use Rattle.sheets.proofs.print_in.Goals as goal

pub read_into-requires : goal.read_into-requires
read_into-requires c = (c.requires.0, c.requires.1, c.requires.2, c.requires.3, c.requires.4)

pub print_rows-requires : goal.print_rows-requires
print_rows-requires c = (into_good c.args.text.now c.args.sheet.now c.read_into.result _ _ _ _ _ c.read_into.ensures c.in-Ok.is, c.requires.5)

pub slice_bounds-put-end : goal.slice_bounds-put-end
slice_bounds-put-end c = c.refusal_line-n.ensures.within

pub slice_bounds-put-end-in-Err : goal.slice_bounds-put-end-in-Err
slice_bounds-put-end-in-Err c = c.refusal_line-n.ensures.long
