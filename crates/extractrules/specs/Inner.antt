-- What the inner functions of crate extraction ask and leave, on the lists that crate start fills in, and what an outcome leaves.
use Rattle.std.specs.Prelude.{◌≡◌, true, List, ℕ, ◌+◌, ◌*◌, ◌^◌, ◌<◌, ◌≤◌, ℤ, length, take, Err, Ok}
use Rattle.numbers.specs.Below.{at, table, over}
use Rattle.refusals.specs.Refusals.{Judged, then, either}
use Rattle.types.specs.declared.Header.{Header}
use Rattle.types.specs.Ranges.{header_fits, is_intraday}
use Rattle.rounds.specs.declared.Final.{Final}
use Rattle.rounds.specs.Rounds.{Grid, State, load, Outcome, extract}
use Rattle.rounds.specs.Last.{last_rounds}
use Rattle.rounds.specs.Stopping.{equal_share}
use Rattle.rounds.specs.AllRounds.{flat}
use Rattle.marginrules.specs.Magnitudes.{BordersInRange}
use Rattle.staterules.specs.Standings.{Standings}
use Rattle.extractrules.specs.Filled.{froms}
use Rattle.extractrules.specs.Extraction.{Result, result_by, atc_record, row_record, ExtractLeft, leaves, result_room, result_stored}

-- where the code ended
abbrev pub ended_at : (borders : ℕ) → Final → (margins : List ℕ) → Outcome
ended_at borders end margins = record { rounds = end.rounds; state = record { margins = margins; x = take borders end.x } }

-- what the rounds ask of the borders, of p and of the margins
pub record Runnable (h : Header) (b : List (List ℤ)) (p margins : List ℕ) : Type 0 where
  pub header : header_fits h ≡ true
  pub borders : BordersInRange h.zones b
  pub borders_long : length b ≡ h.borders
  pub p_long : length p ≡ h.rows * h.borders
  pub margins_long : length margins ≡ h.rows
  pub fits : (i : ℕ) → i < h.rows → at margins i + load (flat h.rows h.borders p) i (froms (is_intraday h) b) < 2 ^ 63

-- what the rounds and storing their results ask
pub record Finishable (h : Header) (b : List (List ℤ)) (m : Standings) (p margins : List ℕ) : Type 0 where
  pub run : Runnable h b p margins
  pub rams_long : length m.rams ≡ h.rows
  pub states_long : length m.states ≡ h.rows
  pub states_in : (i : ℕ) → i < h.rows → at m.states i ≤ 2

-- the grid of p, and where the rounds start and end, from margins and from where the borders start
abbrev pub grid_with : Header → (p : List ℕ) → Grid
grid_with h p = flat h.rows h.borders p

abbrev pub start_with : Header → (b : List (List ℤ)) → (margins : List ℕ) → State
start_with h b margins = record { margins = margins; x = froms (is_intraday h) b }

abbrev pub outcome_with : Header → (b : List (List ℤ)) → (p margins : List ℕ) → Outcome
outcome_with h b p margins = extract (grid_with h p) (start_with h b margins)

-- what the rounds leave: where they ended, each border's last round, and each row's equal share of its margin left
pub record Ran (h : Header) (b : List (List ℤ)) (p margins : List ℕ) (end : Final) (ends lasts shares : List ℕ) : Type 0 where
  pub ended : ended_at h.borders end ends ≡ outcome_with h b p margins
  pub last_rounds_lem : lasts ≡ last_rounds (grid_with h p) (start_with h b margins)
  pub shared : shares ≡ table h.rows (equal_share (grid_with h p) ends)

-- the result, from the lists
abbrev pub result_with : Header → (b : List (List ℤ)) → Standings → (p margins : List ℕ) → Result
result_with h b m p margins = result_by h m p (grid_with h p) (start_with h b margins)

-- what is left of a result whose p stands in the lent table already, and fills it
abbrev pub finished : (atcs lefts : List (List ℤ)) → Result → ExtractLeft
finished atcs lefts r =
    leaves (Ok r.outcome.rounds) r.p (over (table r.header.borders (atc_record r)) atcs) (over (table r.header.rows (row_record r)) lefts)

-- what is left of an outcome: last comes room for results
unfoldable pub outcome_left : Judged Result → (ps : List ℕ) → (atcs lefts : List (List ℤ)) → ExtractLeft
outcome_left o ps atcs lefts = either (then o (result_room atcs lefts)) (result_stored ps atcs lefts) (λ w. leaves (Err w) ps atcs lefts)
