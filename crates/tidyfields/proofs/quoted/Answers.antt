use Rattle.std.proofs.Common.{rules}
use Rattle.tidyfields.proofs.PieceLaws.{quoted_ends}
use Rattle.tidyfields.proofs.quoted.Goals as goal

pub returns-in-34 : goal.returns-in-34
returns-in-34 c = rw (← quoted_ends c.args.f.now c.in-34.len_at_least) (search rules)

pub returns-in_default-2 : goal.returns-in_default-2
returns-in_default-2 c = rw (← quoted_ends c.args.f.now c.in_default.len_at_least) (search rules)
