-- What the functions of src/pass.rt ask and leave, over a grid g and the margins m at the start: of a border, of all borders, and of a walk over the rows.
use Rattle.std.specs.Prelude.{◌≡◌, List, ℕ, ◌+◌, ◌-◌, ◌^◌, ◌<◌, max, length}
use Rattle.numbers.specs.Below.{at, largest}
use Rattle.rounds.specs.Rounds.{Grid, alone}
use Rattle.caps.specs.Tight.{tight}
use Rattle.tightrules.specs.declared.Kws.{Kws}
use Rattle.tightrules.specs.Tight.{reach}

-- margins small enough that a kW for each sharer can be added within 64 bits: no table of 01 reaches 2^49
abbrev pub Small : (m : List ℕ) → Type 0
Small m = (i : ℕ) → i < length m → at m i < 2 ^ 63

-- the largest values of the first k borders
pub record Highest (g : Grid) (m : List ℕ) (k : ℕ) (r : Kws) : Type 0 where
  pub alone : r.alone ≡ largest k (alone g m)
  pub reach : r.reach ≡ largest k (reach g m)

-- the largest values, with border b added
pub record Higher (g : Grid) (m : List ℕ) (b : ℕ) (most r : Kws) : Type 0 where
  pub alone : r.alone ≡ max most.alone (alone g m b)
  pub reach : r.reach ≡ max most.reach (reach g m b)

-- the values after one row of the walk, where the border's factor p is f: neither is above what the row allows
pub record Lowered (f n margin : ℕ) (low r : Kws) : Type 0 where
  pub alone : r.alone ≡ tight f margin low.alone
  pub reach : r.reach ≡ tight f margin (low.reach + (n - 1)) - (n - 1)
