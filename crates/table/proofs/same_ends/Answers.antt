-- `table::same_ends` meets its contract.
use Rattle.numbers.proofs.IntLaws.{plain}
use Rattle.types.specs.Ranges.{at_ℤ}
use Rattle.table.proofs.same_ends.Goals as goal

pub returns : goal.returns
returns c = simp (
  c.same.ensures,
  c.same-2.ensures,
  c.same-3.ensures,
  c.same-4.ensures,
  plain (at_ℤ c.args.x 0) c.same-arg-1.given,
  plain (at_ℤ c.args.y 0) c.same-arg-2-1.given,
  plain (at_ℤ c.args.x 1) c.same-arg-3-1.given,
  plain (at_ℤ c.args.y 1) c.same-arg-4-1.given,
  plain (at_ℤ c.args.x 3) c.same-arg-5-1.given,
  plain (at_ℤ c.args.y 3) c.same-arg-6-1.given,
  plain (at_ℤ c.args.x 4) c.same-arg-7-1.given,
  plain (at_ℤ c.args.y 4) c.same-arg-8-1.given,
)
