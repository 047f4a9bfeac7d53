-- The hour's own bound, known before the first round (01, "Extraction" and demand 3): N, L, 2 x N x L and the sharper bound of a table, with every border free to rise or
-- only those that are marked (02, E13), and what the open calls `bound` and `bound_marked` answer. That the rounds are at most this: crate worst, `rounds-at-most`.
use Rattle.std.specs.Prelude.{◌≡◌, Bool, List, ℕ, ◌≤◌, Ok}
use Rattle.refusals.specs.Refusals.{Judged, then}
use Rattle.marks.specs.Marks.{judge_asked, may_rise}
use Rattle.tablerules.specs.Table.{Table, judge_lent}
use Rattle.extractrules.specs.Start.{grid_marked, table_start, judge_marked}
use Rattle.tightrules.specs.declared.RoundsMost.{RoundsMost}
use Rattle.tightrules.specs.Measure.{bound_by}

-- the bound of a table; where some borders are marked, all is counted over these
abbrev pub bound_of : (marked : ℕ → Bool) → Table → RoundsMost
bound_of marked t = bound_by (grid_marked marked t) (table_start t).margins

-- the bound where the rounds may start: 5, 6 and 7 are judged first
unfoldable pub bound_marked : (marked : ℕ → Bool) → Table → Judged RoundsMost
bound_marked marked t = then (judge_marked marked t) (λ states. Ok (bound_of marked t))

-- the bound as it was asked for, with a list of marks or for every border: 13 is judged first
abbrev pub bound_asked : (all : Bool) → (marks : List ℕ) → Table → Judged RoundsMost
bound_asked all marks t = judge_asked all t.header.borders marks (bound_marked (may_rise all marks) t)

-- lent tables are judged as for the extraction, which asks for room besides: header, lengths, records
unfoldable pub bound_for : (all : Bool) → (marks : List ℕ) → (given : Table) → Judged RoundsMost
bound_for all marks given = then (judge_lent given) (bound_asked all marks)

-- k rounds are at most what `bound` answers: at most 2 N L, and at most the sharper bound, which is never more
pub record AtMost (answer : Judged RoundsMost) (k : ℕ) : Type 0 where
  pub most : RoundsMost
  pub answered : answer ≡ Ok most
  pub few : k ≤ most.rounds
  pub sharp : k ≤ most.sharp
  pub sharper : most.sharp ≤ most.rounds
