-- The laws behind the search for the row that holds a border, and behind the rounds. No contract cites this file.
use mathlib.Core.Path.{◌≡◌, refl, sym, ap, ◌∙◌}
use mathlib.Core.Bool.{Bool}
use mathlib.Core.List.{List}
use Prim.Native.Nat.{ℕ, ◌+◌, ◌/◌, ◌≤◌, ◌<◌}
use native.Mathlib.Omega.{arith}
use borrow.Author.Tests.{lt-ltb, le-ltb}
use lib.Dec.{ltb}
use lib.IntN.{pos}
use lib.ListN.{length}
use Rattle.numbers.specs.Ints.{minus}
use Rattle.numbers.specs.Below.{at, table, first_from}
use Rattle.numbers.proofs.BelowLaws.{Looked, looked_all, looked_here, looked_more, table_get}
use Rattle.rounds.specs.Rounds.{Grid}
use Rattle.rounds.specs.Stopping.{equal_share, stop_row}
use Rattle.rounds.specs.AllRounds.{Ready, Startable, stop_by}
use Rattle.rounds.proofs.Loops.{ready_at}
use Rattle.rounds.proofs.StopLaws.{stop_by_lem}
use Rattle.outcome.specs.Outcome.{row_or_dash}
use Rattle.holding.specs.Holding.{counts_of}

-- ---- the row that holds a border
-- row i's equal share is less than what one kW of border b takes of it, as the code tests it
abbrev pub under : Grid → (margins : List ℕ) → (b i : ℕ) → Bool
under g margins b i = ltb (at (table g.rows (equal_share g margins)) i) (g.p i b)

under_first : (g : Grid) (margins : List ℕ) (b : ℕ) → first_from g.rows 0 (under g margins b) ≡ stop_row g margins b
unfolding stop_by
under_first g margins b = stop_by_lem g margins b refl

module _ {g : Grid} {ns margins : List ℕ} (q : Ready g ns margins) {b i share f : ℕ} (u : Looked g.rows (under g margins b) i) (h : i < g.rows) (s : share ≡ at margins i / at ns i) (e : f ≡ g.p i b) where
  share-is : at (table g.rows (equal_share g margins)) i ≡ share
  share-is = table_get g.rows (equal_share g margins) i 0 h ∙ ap (λ (n : ℕ). at margins i / n) (sym (ready_at q i h)) ∙ sym s

  pub held_here : share < f → pos i ≡ row_or_dash (stop_row g margins b)
  held_here l = ap row_or_dash (looked_here _ _ _ u h (lt-ltb (at (table g.rows (equal_share g margins)) i) (g.p i b) (omega (arith, share-is))) ∙ under_first g margins b)

  pub held_more : f ≤ share → Looked g.rows (under g margins b) (i + 1)
  held_more l = looked_more _ _ _ u h (le-ltb (at (table g.rows (equal_share g margins)) i) (g.p i b) (omega (arith, share-is)))

pub held_none : (g : Grid) (margins : List ℕ) (b : ℕ) {i : ℕ} → Looked g.rows (under g margins b) i → g.rows ≤ i → minus 1 ≡ row_or_dash (stop_row g margins b)
held_none g margins b u l = ap row_or_dash (looked_all _ _ _ u l ∙ under_first g margins b)

-- ---- the rounds
module _ {g : Grid} {m x : List ℕ} (s : Startable g (counts_of g) m x) {ns : List ℕ} (n : ns ≡ counts_of g) where
  pub work_startable : Startable g ns m x
  work_startable = record { ready = record { counts = n; margins = s.ready.margins }; borders = s.borders; fits = s.fits }

  -- of margins that are as many
  pub work_ready : {left : List ℕ} → length left ≡ g.rows → Ready g ns left
  work_ready l = record { counts = n; margins = l }
