-- `claimline::claim_record` meets its contract, which is that of `fill_record`.
use mathlib.Core.Path.{refl}
use Rattle.claimline.proofs.claim_record.Goals as goal

pub fill_record-requires : goal.fill_record-requires
fill_record-requires c = (c.requires, refl)

pub returns : goal.returns
returns c = c.fill_record.ensures
