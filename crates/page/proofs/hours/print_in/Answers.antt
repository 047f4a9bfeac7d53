-- `page::hours::print_in` meets its contract: a table that was read is good.
use Rattle.reading.proofs.IntoLaws.{into_good}
use Rattle.page.proofs.hours.print_in.Goals as goal

pub print_table-requires : goal.print_table-requires
print_table-requires c = into_good c.args.text.now c.args.sheet.now c.read_into.result _ _ _ _ _ c.read_into.ensures c.in-Ok.is
