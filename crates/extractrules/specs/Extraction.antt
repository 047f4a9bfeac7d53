-- From a table to its result (01, "Extraction"), with every border free to rise or only those that are marked (02, E13), and what the open calls `extract` and
-- `extract_marked` leave. What the rounds start from is in `Start.antt`.
use Rattle.std.specs.Prelude.{Bool, true, false, List, [], ℕ, ℤ, length, get_or, Err, None, Ok, Option, Some}
use Rattle.numbers.specs.Below.{at, table, over}
use Rattle.refusals.specs.Refusals.{Judged, then, either, need}
use Rattle.types.specs.declared.Header.{Header}
use Rattle.types.specs.Ranges.{at_ℤ}
use Rattle.marks.specs.Marks.{judge_asked, may_rise}
use Rattle.tablerules.specs.Table.{Table, judge_for}
use Rattle.rounds.specs.Rounds.{Grid, State, Outcome, extract, most_sharers, alone_bits}
use Rattle.rounds.specs.Last.{last_rounds}
use Rattle.rounds.specs.Stopping.{stop_rows}
use Rattle.outcome.specs.Outcome.{in_mw, border_left, left_of_row}
use Rattle.staterules.specs.Standings.{Standings, standings_of}
use Rattle.extractrules.specs.Start.{every, grid_marked, table_grid, table_start, judge_marked}
use Rattle.extractrules.specs.Filled.{cells}

-- the whole result: what the rows were, p of each row at each border (row after row, border after border), where the rounds ended, and of each
-- border the last round that raised it and the row that stopped it (02, E7)
pub record Result : Type 0 where
  pub header : Header
  pub rows : Standings
  pub p : List ℕ
  pub outcome : Outcome
  pub lasts : List ℕ
  pub stops : List (Option ℕ)

-- the result of rounds on a grid
abbrev pub result_by : Header → Standings → (p : List ℕ) → Grid → State → Result
result_by h m p g s =
    record {
      header = h;
      rows = m;
      p = p;
      outcome = extract g s;
      lasts = last_rounds g s;
      stops = stop_rows g (extract g s).state.margins;
    }

-- the result of a table with these borders marked: p is of every border, and the rounds read the grid in which the others have p = 0
unfoldable pub result_marked : (marked : ℕ → Bool) → Table → Result
result_marked marked t = result_by t.header (standings_of t) (cells (table_grid t)) (grid_marked marked t) (table_start t)

unfoldable pub result_of : Table → Result
result_of t = result_marked every t

unfoldable pub atc_of : Result → (b : ℕ) → ℕ
atc_of r b = in_mw (at r.outcome.state.x b)

-- margin left in grains, of a kept row
unfoldable pub left_of : Result → (i : ℕ) → ℕ
left_of r i = at r.outcome.state.margins i

-- a border's last round, and the row that stopped it
unfoldable pub last_of : Result → (b : ℕ) → ℕ
last_of r b = at r.lasts b

unfoldable pub stop_of : Result → (b : ℕ) → Option ℕ
stop_of r b = get_or r.stops b None

-- the outcome of a judged table: 5, 6, 7, and then the rounds
unfoldable pub outcome_marked : (marked : ℕ → Bool) → Table → Judged Result
outcome_marked marked t = then (judge_marked marked t) (λ states. Ok (result_marked marked t))

unfoldable pub outcome_of : Table → Judged Result
outcome_of t = outcome_marked every t

-- the outcome as it was asked for, with a list of marks or for every border: 13 is judged first
unfoldable pub outcome_for : (all : Bool) → (marks : List ℕ) → Table → Judged Result
outcome_for all marks t = judge_asked all t.header.borders marks (outcome_marked (may_rise all marks) t)

-- N and L of demand 3, over the marked borders
unfoldable pub n_of : (marked : ℕ → Bool) → Table → ℕ
n_of marked t = most_sharers (grid_marked marked t)

unfoldable pub l_of : (marked : ℕ → Bool) → Table → ℕ
l_of marked t = alone_bits (grid_marked marked t) (table_start t).margins

-- the records of a result
unfoldable pub atc_record : Result → (b : ℕ) → List ℤ
atc_record r b = border_left (at r.outcome.state.x b) (last_of r b) (stop_of r b)

unfoldable pub row_record : Result → (i : ℕ) → List ℤ
row_record r i = left_of_row (at r.rows.states i) (at_ℤ r.rows.rams i) (left_of r i)

-- lent tables, and room for so many p
abbrev pub judge_extract : (given : Table) → (items : ℕ) → Judged Table
judge_extract given items = judge_for (Some items) given

-- what `extract` leaves: its answer, the lent table of p, and the lent results; last comes room for results, border results before row results
pub record ExtractLeft : Type 0 where
  pub answer : Judged ℕ
  pub p : List ℕ
  pub atcs : List (List ℤ)
  pub lefts : List (List ℤ)

abbrev pub leaves : Judged ℕ → (ps : List ℕ) → (atcs lefts : List (List ℤ)) → ExtractLeft
leaves answer ps atcs lefts = record { answer = answer; p = ps; atcs = atcs; lefts = lefts }

abbrev pub result_room : (atcs lefts : List (List ℤ)) → Result → Judged Result
result_room atcs lefts r = need r.header.borders (length atcs) (need r.header.rows (length lefts) (Ok r))

abbrev pub result_stored : (ps : List ℕ) → (atcs lefts : List (List ℤ)) → Result → ExtractLeft
result_stored ps atcs lefts r =
    leaves (Ok r.outcome.rounds) (over r.p ps) (over (table r.header.borders (atc_record r)) atcs) (over (table r.header.rows (row_record r)) lefts)

unfoldable pub extract_for : (all : Bool) → (marks : List ℕ) → (lent : Table) → (ps : List ℕ) → (atcs lefts : List (List ℤ)) → ExtractLeft
extract_for all marks lent ps atcs lefts =
    either (then (judge_extract lent (length ps)) (λ t. then (outcome_for all marks t) (result_room atcs lefts))) (result_stored ps atcs lefts) (λ w. leaves (Err w) ps atcs lefts)

-- the open call `extract`
unfoldable pub extract_left : (lent : Table) → (ps : List ℕ) → (atcs lefts : List (List ℤ)) → ExtractLeft
extract_left lent ps atcs lefts = extract_for true [] lent ps atcs lefts

-- the open call `extract_marked`
unfoldable pub extract_marked_left : (lent : Table) → (marks : List ℕ) → (ps : List ℕ) → (atcs lefts : List (List ℤ)) → ExtractLeft
extract_marked_left lent marks ps atcs lefts = extract_for false marks lent ps atcs lefts
