-- `claimline::crowded` meets its contract.
use mir.Syntax.{w64}
use mathlib.Core.Path.{ap, ◌∙◌}
use mathlib.Core.List.{[], ◌∷◌}
use Prim.Native.Nat.{suc}
use lib.IntN.{ℤ}
use mir.Facts.{to_z-of_z}
use Rattle.claimrules.specs.Claims.{pairs_most}
use Rattle.claimline.specs.ClaimText.{claim_record, crowded}
use Rattle.claimline.proofs.crowded.Goals as goal

pub returns : goal.returns
unfolding crowded
returns c = c.claim_record.ensures ∙ ap (λ (row : ℤ). claim_record (suc pairs_most) (row ∷ [])) (to_z-of_z {w = w64} c.ranges.row)
