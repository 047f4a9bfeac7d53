-- `claimline::pairs_in` meets its contract: two fields are no pair.
use mathlib.Core.Path.{ap, ◌∙◌}
use Prim.Native.Nat.{ℕ, ◌/◌}
use Rattle.claimline.proofs.ReadLaws.{pairs_some}
use Rattle.claimline.proofs.pairs_in.Goals as goal

pub returns : goal.returns
returns c = ap (λ (n : ℕ). n / 2) c.saturating_sub.ensures ∙ pairs_some _ c.tabs_in.ensures
