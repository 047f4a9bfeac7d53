-- 02, E9: the lent table of p, which the rounds read, against the zone factors, with any borders marked (02, E13). The statement, proved of every accepted table
-- (crate theorems, proofs/ByBorder).
use Rattle.std.specs.Prelude.{◌≡◌, Bool, cond, List, ℕ, ◌+◌, ◌*◌, ◌<◌}
use Rattle.numbers.specs.Below.{at}
use Rattle.tablerules.specs.Table.{Table, border_at, factors_at}
use Rattle.rounds.specs.Rounds.{Grid, State, raise, next, extract}
use Rattle.marginrules.specs.Margin.{p_of}
use Rattle.staterules.specs.Standings.{standings_of}
use Rattle.staterules.specs.States.{kept}
use Rattle.extractrules.specs.Start.{grid_marked, table_start}
use Rattle.extractrules.specs.Extraction.{result_marked}

-- the grid that a list of p lays out: row i's factors begin at item i x borders, border after border. The rounds take those of the marked borders
abbrev pub laid_out : Table → (marked : ℕ → Bool) → (p : List ℕ) → Grid
laid_out t marked p =
    record {
      rows = t.header.rows;
      borders = t.header.borders;
      p = λ i b. cond (marked b) (at p (i * t.header.borders + b)) 0;
    }

pub record ByBorder (t : Table) (marked : ℕ → Bool) (p : List ℕ) : Type 0 where
  -- at every row and border, marked or not, the p that the zone factors give, and 0 where the row is not kept
  pub same : (i b : ℕ) → i < t.header.rows → b < t.header.borders
      → at p (i * t.header.borders + b) ≡ cond (kept (standings_of t).states i) (p_of (factors_at t i) (border_at t b)) 0
  -- raises are equal at any margins
  pub raises : (margins : List ℕ) (b : ℕ) → b < t.header.borders → raise (laid_out t marked p) margins b ≡ raise (grid_marked marked t) margins b
  -- margins and exchanges are equal after a round
  pub round : (s : State) → next (laid_out t marked p) s ≡ next (grid_marked marked t) s
  -- rounds are equal, from any start; from the table's own start they end where its result does
  pub rounds : (s : State) → extract (laid_out t marked p) s ≡ extract (grid_marked marked t) s
  pub ends : extract (laid_out t marked p) (table_start t) ≡ (result_marked marked t).outcome
