-- `whytext::words::put_in` meets its contract: a table that was read is good.
use Rattle.reading.proofs.IntoLaws.{into_good}
use Rattle.whytext.proofs.words.put_in.Goals as goal

pub put_good-requires : goal.put_good-requires
put_good-requires c = into_good c.args.text.now c.args.sheet.now c.read_into.result _ _ _ _ _ c.read_into.ensures c.in_ok-h.was
