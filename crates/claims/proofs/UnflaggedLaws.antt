-- The laws of `specs/Unflagged.antt`. No contract cites this file.
use mathlib.Core.Path.{◌≡◌}
use mathlib.Core.Bool.{Bool, false, not}
use mathlib.Core.List.{List}
use Prim.Native.Nat.{ℕ}
use borrow.Author.Tests.{ne_eqb}
use lib.IntN.{pos}
use Rattle.numbers.specs.Below.{at}
use Rattle.staterules.specs.States.{kept}
use Rattle.claims.specs.Named.{flagged}
use Rattle.claims.specs.Unflagged.{unflagged}

module _ (states : List ℕ) (flags : List Bool) (row : ℕ) where
  pub unflagged_kept : at states row ≡ 0 → not (flagged flags (pos row)) ≡ unflagged states flags row
  unfolding unflagged kept
  unflagged_kept e = rw e

  pub unflagged_not : (at states row ≡ 0 → ⊥) → false ≡ unflagged states flags row
  unfolding unflagged kept
  unflagged_not e = rw (ne_eqb (at states row) 0 e)
