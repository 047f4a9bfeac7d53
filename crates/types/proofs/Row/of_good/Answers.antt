-- `types::Row::of_good` meets its contract: the row is made of the seven numbers as they were lent.
use Rattle.numbers.proofs.IntLaws.{plain}
use Rattle.types.specs.Ranges.{row_of}
use Rattle.types.proofs.Row.of_good.Goals as goal

pub returns : goal.returns
unfolding row_of
returns c = simp (plain, c.fmax-1.given, c.frm-1.given, c.fref-1.given, c.f0all-1.given, c.share-1.given, c.cva-1.given, c.iva-1.given, c.of.ensures)
