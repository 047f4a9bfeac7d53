-- 02, E6: replacing every "-" by the default in force changes no margin.
-- `replaced` is the table with its "-" replaced; `ReplacedSame` says that no row of it has "-", that it is as good as the table, and that RAM, states,
-- capacities, rounds and refusals are the same. It is proved in crate theorems (`replaced-same`).
use Rattle.std.specs.Prelude.{◌≡◌, Bool, false, cond, List, [], ◌∷◌, ℕ, ℤ, pos, get_or}
use Rattle.std.specs.Int.Signed.{lt_z}
use Rattle.types.specs.Ranges.{at_ℤ, default_of}
use Rattle.tablerules.specs.Table.{Table}
use Rattle.tablerules.specs.Good.{Good}
use Rattle.marginrules.specs.Margin.{ram_at, rams_of}
use Rattle.staterules.specs.Standings.{standings_of}
use Rattle.extractrules.specs.Extraction.{outcome_for}

-- R as a raw number, the default where it was "-"
abbrev pub replaced_share : (default r : ℤ) → ℤ
replaced_share default r = cond (lt_z r (pos 0)) default r

-- a raw row with "-" in R replaced by the default
abbrev pub replaced_row : (default : ℤ) → List ℤ → List ℤ
replaced_row default raw =
    at_ℤ raw 0 ∷ at_ℤ raw 1 ∷ at_ℤ raw 2 ∷ at_ℤ raw 3 ∷ replaced_share default (at_ℤ raw 4) ∷ at_ℤ raw 5 ∷ at_ℤ raw 6 ∷ []

abbrev pub replaced_rows : (default : ℤ) → List (List ℤ) → List (List ℤ)
replaced_rows default [] = []
replaced_rows default (raw ∷ rows) = replaced_row default raw ∷ replaced_rows default rows

-- the table with every "-" replaced by the default in force, and nothing else changed
abbrev pub replaced : Table → Table
replaced t =
    record {
      header = t.header;
      nets = t.nets;
      allocated = t.allocated;
      borders = t.borders;
      rows = replaced_rows (default_of t.header) t.rows;
      factors = t.factors;
    }

pub record ReplacedSame (t : Table) : Type 0 where
  -- no row has "-"
  pub written : (i : ℕ) → lt_z (at_ℤ (get_or (replaced t).rows i []) 4) (pos 0) ≡ false
  -- a good table stays one
  pub good : Good t → Good (replaced t)
  -- the margin of each row is the same
  pub ram : (i : ℕ) → ram_at (replaced t) i ≡ ram_at t i
  pub rams : rams_of (replaced t) ≡ rams_of t
  -- the states are the same
  pub rows : standings_of (replaced t) ≡ standings_of t
  -- the capacities and the rounds, or the refusal, are the same, of every border or with marks
  pub outcome : (all : Bool) (marks : List ℕ) → outcome_for all marks (replaced t) ≡ outcome_for all marks t
