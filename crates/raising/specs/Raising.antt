-- What raising the borders asks and leaves. The whole loop of rounds leaves `work_of` of rounds (roundloop).
use Rattle.std.specs.Prelude.{◌≡◌, List, ℕ, ◌+◌, ◌^◌, ◌<◌, length}
use Rattle.numbers.specs.Below.{at, table}
use Rattle.rounds.specs.Rounds.{risen}
use Rattle.rounds.specs.AllRounds.{noted}
use Rattle.walk.specs.Walk.{Listed}

-- each x that rises by v fits a u64 with its raise
pub record Fits (v x : List ℕ) : Type 0 where
  pub long : length x ≡ length v
  pub fits : (b : ℕ) → b < length v → 0 < at v b → at x b + at v b < 2 ^ 64

-- what raising by v asks: the list holds the borders with a raise; what was gained (d) and the exchanges (x) still fit a u64; each border has a last round
pub record Risable (v list : List ℕ) (d x lasts : List ℕ) : Type 0 where
  pub listed : Listed (length v) v list
  pub gains : Fits v d
  pub exchanges : Fits v x
  pub notes : length lasts ≡ length v

-- what raising by v leaves: every border has risen
pub record Rose (v d x lasts : List ℕ) (round : ℕ) (d' x' lasts' : List ℕ) : Type 0 where
  pub gained : d' ≡ table (length v) (risen v d)
  pub exchanges : x' ≡ table (length v) (risen v x)
  pub last_rounds_lem : lasts' ≡ table (length v) (noted round v lasts)
