-- `hours::unread_line` meets its contract: the laws `unread-fits` and `unread-printed`.
use Rattle.hours.proofs.HourLaws.{unread_fits, unread_printed}
use Rattle.hours.proofs.unread_line.Goals as goal

pub put_labelled-requires : goal.put_labelled-requires
put_labelled-requires c = unread_fits c.args.name.now c.label_of.ensures c.requires.0 c.args.out.now c.requires.1

pub returns : goal.returns
returns c = unread_printed c.args.name.now c.label_of.ensures c.put_labelled.ensures
