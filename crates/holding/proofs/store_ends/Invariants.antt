-- `holding::store_ends` meets its contract. The invariant: the first c records are stored, and the rest is as it was.
use lib.ListN.{length}
use Rattle.numbers.specs.Below.{at}
use Rattle.numbers.proofs.ListLaws.{Filled}
use Rattle.holding.specs.Holding.{ends_left}
use Rattle.holding.proofs.store_ends.Given as goal

abbrev pub invariant-loop-c : goal.invariant-loop-c
invariant-loop-c l = Filled (λ c. ends_left (at l.from c) (at l.to c)) (length l.from) l.initial.out l.out l.c
