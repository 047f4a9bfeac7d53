-- What the raises of margins take of a row. No contract cites this file.
use mathlib.Core.Path.{◌≡◌}
use mathlib.Core.List.{List}
use Prim.Native.Nat.{ℕ, ◌*◌, ◌/◌, ◌≤◌, ◌<◌}
use native.Mathlib.Nat.{le_trans, mul-le-mul_right, div-mul-le_self}
use Rattle.numbers.specs.Below.{at}
use Rattle.numbers.proofs.BelowLaws.{largest_under}
use Rattle.rounds.specs.Rounds.{Grid, sharers, raises, load}
use Rattle.rounds.proofs.Round.{raises_are, share_fits, load_fits}
use Rattle.walk.specs.Walk.{part, most_load}

module _ (g : Grid) (m : List ℕ) {w : List ℕ} (e : w ≡ raises g m) where
  pub raises_within : (i : ℕ) → i < g.rows → load g i w ≤ at m i
  raises_within i hi = rw e (load_fits g m i hi)

  -- n times the most part is within the margin
  pub most_within : (i : ℕ) → i < g.rows → most_load g i w * sharers g i ≤ at m i
  unfolding most_load part
  most_within i hi =
      let t : most_load g i w ≤ at m i / sharers g i =
      largest_under g.borders (part g i w) (at m i / sharers g i) (λ b hb. rw (raises_are g m e b hb) (share_fits g m i b hi)) in
      le_trans (mul-le-mul_right (sharers g i) t) (div-mul-le_self (at m i) (sharers g i))
