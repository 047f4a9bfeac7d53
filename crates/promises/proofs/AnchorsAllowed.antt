-- Which net positions rows allow (02, E10), computed on two rows whose whole net positions are the same and whose halves are not. Nobody cites it: it refuses
-- a definition that slipped, and one of whole net positions alone.
use mathlib.Core.Path.{◌≡◌, refl, subst}
use mathlib.Core.List.{[], ◌∷◌}
use Prim.Native.Nat.{ℕ}
use native.Mathlib.Omega.{arith}
use borrow.Author.Tests.{eqb-true}
use lib.Dec.{eqb, lit<}
use lib.IntN.{ℤ, pos, ◌*ℤ◌}
use lib.Signed.{◌≤ℤ◌}
use Rattle.numbers.specs.Below.{sum}
use Rattle.numbers.specs.Ints.{minus, max_ℤ, positive_part, sum_ℤ}
use Rattle.types.specs.Ranges.{at_ℤ, hubs_of, border_of, share_of, row_of, worth, default_of}
use Rattle.tablerules.specs.Table.{Table, lent, stretch}
use Rattle.marginrules.specs.Margin.{grains, f0core_of, fuaf_of, base_of, amr_of, signed_factor, p_of, lta_kw, s_of, lta_margin_of, ram_of, ram_at}
use Rattle.promises.specs.Allowed.{net_load, Allowed, Same}

-- two zones; two rows with the factors 33333 and -33333, row 0 with a RAM of 100000 grains and row 1 with one of 70000
abbrev t : Table
t =
    lent (record { zones = 2; borders = 1; rows = 2; share = minus 1; intraday = 0 }) (pos 0 ∷ pos 0 ∷ []) [] ((pos 0 ∷ pos 1 ∷ pos 0 ∷ minus 1 ∷ minus 1 ∷ []) ∷ [])
    ((pos 1 ∷ pos 0 ∷ pos 0 ∷ pos 0 ∷ pos 0 ∷ pos 0 ∷ pos 0 ∷ []) ∷ (pos 1 ∷ pos 1 ∷ pos 0 ∷ pos 0 ∷ pos 7000 ∷ pos 0 ∷ pos 0 ∷ []) ∷ [])
    (pos 33333 ∷ minus 33333 ∷ pos 33333 ∷ minus 33333 ∷ [])

-- n from zone 0 to zone 1
abbrev exchange : (n : ℕ) → (z : ℕ) → ℤ
exchange n = at_ℤ (pos n ∷ minus n ∷ [])

-- the list of one row
abbrev only : (row : ℕ) → (k n : ℕ) → Type 0
only row k n = Allowed t (eqb row) k (exchange n)

pub record AllowedAnchors : Type 0 where
  pub ram_0 : ram_at t 0 ≡ pos 100000
  pub ram_1 : ram_at t 1 ≡ pos 70000
  -- 1 kW: both rows allow it; 2 kW: neither does
  pub one_0 : only 0 1 1
  pub one_1 : only 1 1 1
  pub two_0 : only 0 1 2 → ⊥
  pub two_1 : only 1 1 2 → ⊥
  -- 3/2 kW: row 0 allows it, and row 1 does not; nor is it 3 kW
  pub half_0 : only 0 2 3
  pub half_1 : only 1 2 3 → ⊥
  pub three_0 : only 0 1 3 → ⊥
  -- the two rows do not allow the same, though of whole kW they do: 3/2 kW from zone 0 to zone 1 sum to zero over both zones
  pub not_same : Same t (eqb 0) (eqb 1) → ⊥

listed : (row k n : ℕ) → net_load t (exchange n) row ≤ℤ (pos k *ℤ ram_at t row) → only row k n
listed row k n within = record { each = λ i h l. subst (λ (j : ℕ). net_load t (exchange n) j ≤ℤ (pos k *ℤ ram_at t j)) (eqb-true row i l) within }

pub allowed_anchors : AllowedAnchors
unfolding sum sum_ℤ max_ℤ positive_part hubs_of border_of share_of row_of worth default_of stretch grains f0core_of fuaf_of base_of amr_of signed_factor p_of lta_kw s_of lta_margin_of ram_of ram_at net_load
allowed_anchors =
    record {
      ram_0 = refl;
      ram_1 = refl;
      one_0 = listed 0 1 1 (record { le = tt });
      one_1 = listed 1 1 1 (record { le = tt });
      two_0 = λ a. (a.each 0 (omega arith) refl).le;
      two_1 = λ a. (a.each 1 (omega arith) refl).le;
      half_0 = listed 0 2 3 (record { le = tt });
      half_1 = λ a. (a.each 1 (omega arith) refl).le;
      three_0 = λ a. (a.each 0 (omega arith) refl).le;
      not_same = λ s. (((s.same 2 (lit< tt) (exchange 3) refl).0 (listed 0 2 3 (record { le = tt }))).each 1 (omega arith) refl).le;
    }
