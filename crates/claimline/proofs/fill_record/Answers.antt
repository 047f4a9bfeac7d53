use mir.Syntax.{w64}
use mathlib.Core.Path.{◌∙◌}
use native.Mathlib.Omega.{arith}
use borrow.Author.Rules.{sfits_of}
use mir.Facts.{to_z-of_z}
use Rattle.numbers.proofs.ListLaws.{filled_none, filled_more, filled_all}
use Rattle.claimline.specs.ClaimText.{claim_record}
use Rattle.claimline.proofs.fill_record.Goals as goal

pub loop-k-init : goal.loop-k-init
loop-k-init c = filled_none _ _ _

pub claim_item-requires : goal.claim_item-requires
claim_item-requires c = c.requires.0

pub bounds-claim-k : goal.bounds-claim-k
bounds-claim-k c = omega (arith, c.loop-k.invariant.as_long, c.requires.1)

pub loop-k-preserved : goal.loop-k-preserved
loop-k-preserved c = filled_more c.loop-k.invariant _ (omega arith) (omega (arith, c.requires.1)) (to_z-of_z {w = w64} (sfits_of c.claim_item.type_inv) ∙ c.claim_item.ensures)

pub shape_of-claim : goal.shape_of-claim
shape_of-claim c = c.loop-k.invariant.as_long

pub returns : goal.returns
unfolding claim_record
returns c = filled_all c.loop-k.invariant (omega arith) c.requires.1
