-- `claimline::no_claim` meets its contract.
use Rattle.claimline.specs.ClaimText.{no_claim}
use Rattle.claimline.proofs.no_claim.Goals as goal

pub returns : goal.returns
unfolding no_claim
returns c = c.claim_record.ensures
