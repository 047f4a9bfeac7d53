-- `printing::texts::write_filled` meets its contract: the laws `filled-said` and `unfilled-said`.
use Rattle.std.proofs.lemmas.Result.{err_from_is_err_and}
use Rattle.tablerules.specs.Table.{Table, lent}
use Rattle.printing.proofs.RowsLaws.{filled_front, filled_said, unfilled_said}
use Rattle.printing.proofs.texts.write_filled.Goals as goal

pub write_good-requires : goal.write_good-requires
write_good-requires c = let given : Table = lent c.args.h c.args.z.now c.args.t.now c.args.b.now c.args.c.now c.args.f.now in
    filled_front given c.requires.0 c.args.file.now c.read_rows.result _ _ c.read_rows.ensures c.in_ok-read_rows.was

pub returns-in_err-read_rows : goal.returns-in_err-read_rows
returns-in_err-read_rows c = let given : Table = lent c.args.h c.args.z.now c.args.t.now c.args.b.now c.args.c.now c.args.f.now in
    let p = err_from_is_err_and c.from_residual.result c.from_residual.ensures.1 in rw (p.1, p.2) (unfilled_said given c.requires.0 c.args.file.now c.read_rows.result _ _ c.read_rows.ensures _ c.in_err-read_rows.was c.args.out.now)

pub returns : goal.returns
returns c = let given : Table = lent c.args.h c.args.z.now c.args.t.now c.args.b.now c.args.c.now c.args.f.now in
    filled_said given c.requires.0 c.args.file.now c.read_rows.result _ _ c.read_rows.ensures c.in_ok-read_rows.was c.args.out.now c.requires.1 c.write_good.result c.write_good.ensures
