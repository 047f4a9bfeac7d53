-- `claimline::claim_with` meets its contract, which is that of `claim_in`.
use mathlib.Core.Path.{refl}
use Rattle.claimline.proofs.claim_with.Goals as goal

pub claim_in-requires : goal.claim_in-requires
claim_in-requires c = (c.requires, refl)

pub returns : goal.returns
returns c = c.claim_in.ensures
