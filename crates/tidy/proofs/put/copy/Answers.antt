-- `tidy::put::copy` meets its contract.
use Rattle.tidy.proofs.ClipLaws.{clip_part}
use Rattle.tidy.proofs.put.copy.Goals as goal

pub returns : goal.returns
returns c = clip_part c.args.s.now c.args.out.now c.copy_from_slice.new.self c.args.at c.min-from.result c.min-until.result c.min-from.ensures c.min-until.ensures c.copy_from_slice.ensures.after
