-- Demand 3 of what the calls `extract` and `extract_marked` leave: of the records in lent memory and of the rounds that they answer, as a caller finds them
-- (crate theorems, proofs/DemandLeft).
use Rattle.std.specs.Prelude.{◌≡◌, Bool, List, [], ℕ, ◌/◌, ◌<◌, ℤ, pos, get_or}
use Rattle.numbers.specs.Below.{at}
use Rattle.types.specs.Ranges.{at_ℤ}
use Rattle.tablerules.specs.Table.{Table}
use Rattle.promises.specs.Demand.{Demand3}

-- border b's ATC, MW, and row i's margin left, grains, as the lent results hold them
abbrev pub atc_in : (atcs : List (List ℤ)) → (b : ℕ) → ℤ
atc_in atcs b = at_ℤ (get_or atcs b []) 0

abbrev pub left_in : (lefts : List (List ℤ)) → (i : ℕ) → ℤ
left_in lefts i = at_ℤ (get_or lefts i []) 2

pub record LeftDemand3 (t : Table) (marked : ℕ → Bool) (rounds : ℕ) (atcs lefts : List (List ℤ)) : Type 0 where
  -- the final exchanges in kW: their whole MW are the ATCs left
  pub kw : List ℕ
  pub floored : (b : ℕ) → b < t.header.borders → atc_in atcs b ≡ pos (at kw b / 1000)
  -- demand 3 of them, of the margins left and of the rounds answered
  pub demand : Demand3 t marked kw (left_in lefts) rounds
