-- `claimline::fill_record` meets its contract. The invariant: the first k numbers of the record are filled in.
use Rattle.numbers.proofs.ListLaws.{Filled}
use Rattle.claimline.specs.ClaimText.{claim_items, claim_item}
use Rattle.claimline.proofs.fill_record.Given as goal

abbrev pub invariant-loop-k : goal.invariant-loop-k
invariant-loop-k l = Filled (claim_item l.pairs l.fields) claim_items l.initial.claim l.claim l.k
