use Rattle.arguments.proofs.SameLaws.{bytes_eq-same}
use Rattle.arguments.proofs.lists.same.Goals as goal

pub returns : goal.returns
returns c = let e = bytes_eq-same c.args.word.now c.args.other.now in cc
