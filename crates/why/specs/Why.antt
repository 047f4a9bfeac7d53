-- Why a border got no more: the record of its reasons, a definition over the rules' rounds (01, "Extraction"; 02, E7), with every border free to rise or only those that
-- are marked (02, E13), and what the open calls `why` and `why_marked` leave. What each part of it means in the words of the table: crate reasoned.
use Rattle.std.specs.Prelude.{Bool, true, false, List, [], ℕ, ltb, ℤ, length, get_or, Err, None, Ok, Option}
use Rattle.numbers.specs.Below.{at, table, over}
use Rattle.refusals.specs.declared.Refusal.{Refusal}
use Rattle.refusals.specs.declared.Refusal.TheVariants.{NoBorder}
use Rattle.refusals.specs.Refusals.{Judged, then, either, unless, need}
use Rattle.types.specs.declared.Header.{Header}
use Rattle.marks.specs.Marks.{judge_asked, may_rise}
use Rattle.tablerules.specs.Table.{Table}
use Rattle.rounds.specs.Rounds.{Grid, State, Outcome, sharers, extract}
use Rattle.rounds.specs.Last.{last_round}
use Rattle.rounds.specs.Stopping.{stop_row}
use Rattle.staterules.specs.Standings.{standings_of}
use Rattle.extractrules.specs.Start.{grid_marked, table_grid, table_start, judge_marked}
use Rattle.extractrules.specs.Filled.{cells}
use Rattle.outcome.specs.Outcome.{row_or_dash}
use Rattle.extractrules.specs.Extraction.{judge_extract}
use Rattle.holding.specs.Holding.{end_row, allowed_by, ends_left, row_left}
use Rattle.holding.specs.declared.Reasons.{Reasons}

-- ---- a border's reasons
-- p of each row at each border, where the rounds started and ended, of each row its state, n, and what it would still allow border b; b's last round, the row that the
-- result names for it (stopped it at the end), and the row that ended its rise
pub record Why : Type 0 where
  pub header : Header
  pub states : List ℕ
  pub p : List ℕ
  pub start : State
  pub outcome : Outcome
  pub ns : List ℕ
  pub allows : List (Option ℕ)
  pub last : ℕ
  pub named : Option ℕ
  pub ended : Option ℕ

-- a border's reasons, from the rounds on a grid
abbrev pub why_by : Header → (states p : List ℕ) → Grid → State → (b : ℕ) → Why
why_by h states p g s b =
    record {
      header = h;
      states = states;
      p = p;
      start = s;
      outcome = extract g s;
      ns = table h.rows (sharers g);
      allows = table h.rows (allowed_by g (extract g s).state.margins b);
      last = last_round g s b;
      named = stop_row g (extract g s).state.margins b;
      ended = end_row g s b;
    }

-- a border's reasons in a table with these borders marked: p is of every border, and the rounds read the grid in which the others have p = 0
unfoldable pub why_marked : (marked : ℕ → Bool) → Table → (b : ℕ) → Why
why_marked marked t b = why_by t.header (standings_of t).states (cells (table_grid t)) (grid_marked marked t) (table_start t) b

-- ---- as records
unfoldable pub end_record : Why → (c : ℕ) → List ℤ
end_record w c = ends_left (at w.start.x c) (at w.outcome.state.x c)

unfoldable pub row_record : Why → (i : ℕ) → List ℤ
row_record w i = row_left (at w.ns i) (at w.states i) (at w.outcome.state.margins i) (get_or w.allows i None)

-- the answer: the number of rounds, the border's last, and both rows, -1 where there is none
unfoldable pub reasons_of : Why → Reasons
reasons_of w = record { rounds = w.outcome.rounds; last = w.last; named = row_or_dash w.named; ended = row_or_dash w.ended }

-- ---- judged
-- 14: a border that the table does not have; the place is how many it has
abbrev pub no_border : (borders : ℕ) → Refusal
no_border borders = NoBorder borders

-- of a judged table: 5, 6, 7
unfoldable pub reasons_marked : (marked : ℕ → Bool) → Table → (b : ℕ) → Judged Why
reasons_marked marked t b = then (judge_marked marked t) (λ states. Ok (why_marked marked t b))

-- a border's reasons as they were asked for: 13, and then 14, come first
unfoldable pub reasons_for : (all : Bool) → (marks : List ℕ) → Table → (b : ℕ) → Judged Why
reasons_for all marks t b = judge_asked all t.header.borders marks (unless (ltb b t.header.borders) (no_border t.header.borders) (reasons_marked (may_rise all marks) t b))

-- ---- what a call leaves: its answer, the lent table of p, and the lent records; last comes room for these, borders before rows
pub record WhyLeft : Type 0 where
  pub answer : Judged Reasons
  pub p : List ℕ
  pub ends : List (List ℤ)
  pub rows : List (List ℤ)

abbrev pub leaves : Judged Reasons → (ps : List ℕ) → (ends rows : List (List ℤ)) → WhyLeft
leaves answer ps ends rows = record { answer = answer; p = ps; ends = ends; rows = rows }

abbrev pub why_room : (ends rows : List (List ℤ)) → Why → Judged Why
why_room ends rows w = need w.header.borders (length ends) (need w.header.rows (length rows) (Ok w))

abbrev pub why_stored : (ps : List ℕ) → (ends rows : List (List ℤ)) → Why → WhyLeft
why_stored ps ends rows w =
    leaves (Ok (reasons_of w)) (over w.p ps) (over (table w.header.borders (end_record w)) ends) (over (table w.header.rows (row_record w)) rows)

-- of what was judged
unfoldable pub judged_left : Judged Why → (ps : List ℕ) → (ends rows : List (List ℤ)) → WhyLeft
judged_left j ps ends rows = either (then j (why_room ends rows)) (why_stored ps ends rows) (λ w. leaves (Err w) ps ends rows)

-- of lent tables, which are judged as for the extraction: header, lengths with that of p, records
unfoldable pub why_for : (all : Bool) → (marks : List ℕ) → (lent : Table) → (b : ℕ) → (ps : List ℕ) → (ends rows : List (List ℤ)) → WhyLeft
why_for all marks lent b ps ends rows = judged_left (then (judge_extract lent (length ps)) (λ t. reasons_for all marks t b)) ps ends rows

-- the open call `why`
unfoldable pub why_left : (lent : Table) → (b : ℕ) → (ps : List ℕ) → (ends rows : List (List ℤ)) → WhyLeft
why_left lent b ps ends rows = why_for true [] lent b ps ends rows

-- the open call `why_marked`
unfoldable pub why_marked_left : (lent : Table) → (marks : List ℕ) → (b : ℕ) → (ps : List ℕ) → (ends rows : List (List ℤ)) → WhyLeft
why_marked_left lent marks b ps ends rows = why_for false marks lent b ps ends rows
