-- `sheets::sheet_row` meets its contract: the law `sheet-printed`.
use Rattle.sheets.proofs.SheetLaws.{sheet_printed}
use Rattle.sheets.proofs.sheet_row.Goals as goal

pub returns : goal.returns
returns c = sheet_printed c.requires.0 c.args.row _ c.corner_text_good.result c.requires.1 c.corner_text_good.ensures c.told.ensures
