-- What the functions of crate start ask and leave, on the lists that they fill in.
use Rattle.std.specs.Prelude.{Bool, not, ◌&&◌, List, [], ℕ, ◌*◌, ◌/◌, ◌%◌, ltb, ℤ, length, get_or}
use Rattle.numbers.specs.Below.{table, over, some_below}
use Rattle.limits.specs.Limits.{borders_most}
use Rattle.refusals.specs.Answers.{said_judgement}
use Rattle.refusals.specs.Refusals.{Judged, Ruling}
use Rattle.types.specs.declared.Header.{Header}
use Rattle.types.specs.Ranges.{border_of}
use Rattle.tablerules.specs.Table.{Table}
use Rattle.rounds.specs.Rounds.{Grid}
use Rattle.marginrules.specs.Margin.{starts_of}
use Rattle.staterules.specs.Standings.{Standings, standings_of, standings_with}
use Rattle.extractrules.specs.Start.{from_by, grid_of, judge_marked}

-- where each border starts, kW
abbrev pub froms : (intraday : Bool) → (b : List (List ℤ)) → List ℕ
froms intraday b = table (length b) (λ k. from_by intraday (border_of (get_or b k [])))

-- where each border starts, at the front of an array for the most borders, and 0 beyond them
abbrev pub exchanges_of : (intraday : Bool) → (b : List (List ℤ)) → List ℕ
exchanges_of intraday b = over (froms intraday b) (table borders_most (λ k. 0))

-- a marked border that no row loads
abbrev pub free_of : (marked : ℕ → Bool) → Header → (borders : List (List ℤ)) → (factors : List ℤ) → (states : List ℕ) → (b : ℕ) → Bool
free_of marked h borders factors states b = marked b && not (some_below h.rows (λ i. ltb 0 ((grid_of marked h borders factors states).p i b)))

-- a grid's factors in one list, row after row and, for each row, border after border
abbrev pub cells : Grid → List ℕ
cells g = table (g.rows * g.borders) (λ k. g.p (k / g.borders) (k % g.borders))

-- what preparing leaves: the judgement, the rows, and where the margin of each starts
pub record Prepared : Type 0 where
  pub judged : Judged (List ℕ)
  pub rows : Standings
  pub starts : List ℤ

abbrev pub prepared : Ruling → (rams starts : List ℤ) → (states : List ℕ) → Prepared
prepared r rams starts states = record { judged = said_judgement r states; rows = standings_with rams states; starts = starts }

unfoldable pub prepared_of : (marked : ℕ → Bool) → Table → Prepared
prepared_of marked t = record { judged = judge_marked marked t; rows = standings_of t; starts = starts_of t }
