-- The published list allows the same net positions as all kept rows, among those that sum to zero (02, E10). No contract cites this file.
use Rattle.std.specs.Prelude.{Ok}
use mathlib.Core.Path.{◌≡◌}
use mathlib.Core.List.{List}
use Prim.Native.Nat.{ℕ}
use Rattle.tablerules.specs.Table.{Table, front}
use Rattle.staterules.specs.Standings.{standings_of}
use Rattle.staterules.specs.States.{kept}
use Rattle.claimrules.specs.Claims.{remaining}
use Rattle.promises.specs.Allowed.{Same}
use Rattle.theorems.proofs.CanGo.{claimed_rows_can_go}
use Rattle.claimline.specs.ClaimText.{claims_in}
use Rattle.claimtext.specs.Published.{published_text, published_answer}
use Rattle.claimtext.proofs.PublishedLaws.{publishes}

-- the text has the rows that remain, and these allow what all kept rows do
pub record AllowsTheSame (t : Table) (list text : List ℕ) : Type 0 where
  pub is : text ≡ published_text (standings_of t) (remaining (standings_of t).states (claims_in list))
  pub same : Same t (kept (standings_of t).states) (remaining (standings_of t).states (claims_in list))

pub published_allows_the_same : (given : Table) (list text : List ℕ) → published_answer given list ≡ Ok text → AllowsTheSame (front given) list text
published_allows_the_same given list text e =
    let p = publishes given list text e in
    record { is = p.is; same = claimed_rows_can_go (front given) (claims_in list) p.accepted }
