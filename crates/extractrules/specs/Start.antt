-- What the rounds start from (01, "Extraction"), and when they do not start (refusals 5, 6, 7): the setup of a table.
-- Definitions ask for the parts that they use, by row or by border, so that a function that is lent these parts cites them as they are.
use Rattle.std.specs.Prelude.{Bool, true, cond, not, List, [], ℕ, ℤ, get_or}
use Rattle.refusals.specs.Refusals.{Judged}
use Rattle.types.specs.declared.Header.{Header}
use Rattle.types.specs.declared.Border.{Border}
use Rattle.types.specs.Ranges.{at_ℤ, is_intraday, border_of}
use Rattle.tablerules.specs.Table.{Table, stretch}
use Rattle.rounds.specs.Rounds.{Grid, State}
use Rattle.marginrules.specs.Margin.{p_of, lta_kw, starts_of}
use Rattle.staterules.specs.States.{kept}
use Rattle.staterules.specs.Standings.{standings_of}
use Rattle.setup.specs.Setup.{Setup, grid_by, begin_by, judge_by}

-- every border may rise
abbrev pub every : (b : ℕ) → Bool
every b = true

-- where a border starts, kW: at its LTA, or in the intraday profile at 0 (02, E12)
abbrev pub from_by : (intraday : Bool) → Border → ℕ
from_by intraday border = cond intraday 0 (lta_kw border)

-- each row starts with its margin, and each border as the profile says; a margin below 0 is refused, but in the intraday profile it counts as 0
unfoldable pub setup_with : (takes marked : ℕ → Bool) → Header → (borders : List (List ℤ)) → (factors starts : List ℤ) → Setup
setup_with takes marked h borders factors starts =
    record {
      rows = h.rows;
      borders = h.borders;
      takes = takes;
      marked = marked;
      p = λ i b. p_of (stretch h.zones factors i) (border_of (get_or borders b []));
      margin = at_ℤ starts;
      strict = not (is_intraday h);
      from = λ b. from_by (is_intraday h) (border_of (get_or borders b []));
    }

-- the grid of factors p, which asks for no margins; a row that takes no part has p = 0 at every border, and a border that is not marked on every row
unfoldable pub grid_of : (marked : ℕ → Bool) → Header → (borders : List (List ℤ)) → (factors : List ℤ) → (states : List ℕ) → Grid
grid_of marked h borders factors states = grid_by (setup_with (kept states) marked h borders factors [])

-- the margins and exchanges, which ask for no factors, and are the same whatever is marked
unfoldable pub start_of : Header → (borders : List (List ℤ)) → (states : List ℕ) → (starts : List ℤ) → State
start_of h borders states starts = begin_by (setup_with (kept states) every h borders [] starts)

-- 5: no row of state 0; 6: a marked border with p > 0 on no kept row; 7: a kept row's starting margin is below 0
unfoldable pub judge_start : (marked : ℕ → Bool) → Header → (borders : List (List ℤ)) → (factors : List ℤ) → (states : List ℕ) → (starts : List ℤ) → Judged (List ℕ)
judge_start marked h borders factors states starts = judge_by (setup_with (kept states) marked h borders factors starts) states

-- the setup of a table: which rows take part is decided by their states
abbrev pub setup_of : (takes : (states : List ℕ) → (i : ℕ) → Bool) → (marked : ℕ → Bool) → Table → Setup
setup_of takes marked t = setup_with (takes (standings_of t).states) marked t.header t.borders t.factors (starts_of t)

abbrev pub grid_marked : (marked : ℕ → Bool) → Table → Grid
grid_marked marked t = grid_by (setup_of kept marked t)

abbrev pub table_grid : Table → Grid
table_grid t = grid_marked every t

abbrev pub table_start : Table → State
table_start t = begin_by (setup_of kept every t)

abbrev pub judge_marked : (marked : ℕ → Bool) → Table → Judged (List ℕ)
judge_marked marked t = judge_by (setup_of kept marked t) (standings_of t).states
