-- A small sheet, computed. Nobody cites it: it refuses a definition that slipped, by the number that comes out.
use mathlib.Core.Path.{◌≡◌, refl}
use mathlib.Core.List.{List, [], ◌∷◌}
use Prim.Native.Nat.{ℕ, zero, suc, ◌<◌}
use native.Mathlib.Omega.{arith}
use lib.Dec.{lit<}
use lib.IntN.{ℤ, pos}
use lib.Signed.{◌≤ℤ◌, le_z_yes, lt_z_yes, clash_ℤ}
use Rattle.numbers.specs.Ints.{minus}
use Rattle.types.specs.Ranges.{at_ℤ, hubs_of, border_of}
use Rattle.marginrules.specs.Margin.{signed_factor, lta_kw, corner_part}
use Rattle.cornerrules.specs.Corners.{raised_by, corner_flows, flows_of, Largest}

abbrev flows : List ℤ
flows = pos 0 ∷ minus 2000000000 ∷ pos 6000000000 ∷ pos 4000000000 ∷ []

-- factors 0.3, 0.1 and 0; border 0 from 1 to 0 relieves the row by 0.2 of 100 MW, border 1 from 0 to 2 loads it by 0.3 of 200 MW
pub two_borders : flows_of (pos 30000 ∷ pos 10000 ∷ pos 0 ∷ []) ((pos 1 ∷ pos 0 ∷ pos 100 ∷ minus 1 ∷ minus 1 ∷ []) ∷ (pos 0 ∷ pos 2 ∷ pos 200 ∷ minus 1 ∷ minus 1 ∷ []) ∷ []) ≡ flows
unfolding hubs_of border_of signed_factor lta_kw corner_part raised_by corner_flows
two_borders = refl

-- the largest flow is corner 2's, and not the last corner's
none_over : (k : ℕ) → k < 4 → at_ℤ flows k ≤ℤ pos 6000000000
none_over zero h = le_z_yes tt
none_over (suc zero) h = le_z_yes tt
none_over (suc (suc zero)) h = le_z_yes tt
none_over (suc (suc (suc zero))) h = le_z_yes tt
none_over (suc (suc (suc (suc k)))) h = absurd (omega arith)

pub largest : Largest flows (pos 6000000000)
largest = record { none_over = none_over; corner = 2; below = lit< tt; is = refl }

pub not_the_last : Largest flows (pos 4000000000) → ⊥
not_the_last l = clash_ℤ (lt_z_yes {a = pos 4000000000} {b = pos 6000000000} tt) (l.none_over 2 (lit< tt))
