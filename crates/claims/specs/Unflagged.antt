-- Which rows are left by flags.
use Rattle.std.specs.Prelude.{Bool, not, ◌&&◌, List, ℕ, pos}
use Rattle.staterules.specs.States.{kept}
use Rattle.claims.specs.Named.{flagged}

-- the kept rows whose flag is not set
unfoldable pub unflagged : (states : List ℕ) → (flags : List Bool) → (i : ℕ) → Bool
unflagged states flags i = kept states i && not (flagged flags (pos i))
