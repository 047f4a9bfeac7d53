-- `dayfront::bounds::most_in` meets its contract: a table that was read is good.
use Rattle.reading.proofs.IntoLaws.{into_good}
use Rattle.dayfront.proofs.bounds.most_in.Goals as goal

pub sharp-requires : goal.sharp-requires
sharp-requires c = into_good c.args.text.now _ c.read_into.result _ _ _ _ _ c.read_into.ensures c.in-Ok.is
