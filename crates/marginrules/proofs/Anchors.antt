-- Small computed margins. Nobody cites them: they refuse a definition that slipped (01, "Slips seen in hand sheets").
use mathlib.Core.Path.{refl}
use mathlib.Core.List.{List, [], ◌∷◌}
use Prim.Native.Nat.{ℕ}
use lib.IntN.{ℤ, pos}
use Rattle.numbers.specs.Below.{sum, largest}
use Rattle.numbers.specs.Ints.{minus, max_ℤ, positive_part, sum_ℤ}
use Rattle.numbers.specs.Computed.{◌is◌, Hold}
use Rattle.types.specs.Ranges.{hubs_of, border_of, share_of, row_of, worth, default_of}
use Rattle.tablerules.specs.Table.{Table, stretch}
use Rattle.marginrules.specs.Margin.{grains, f0core_of, fuaf_of, base_of, amr_of, signed_factor, p_of, lta_kw, corner_part, s_of, lta_margin_of, ram_of, ram_at, margin_of}

-- Fmax 100000 kW and else FRM and R alone, p 20000 on one border of LTA 1 MW
abbrev small_in : (mark : ℕ) → (allocated : List ℤ) → (share frm r : ℤ) → Table
small_in mark allocated share frm r =
    record {
      header = record { zones = 2; borders = 1; rows = 1; share = share; intraday = mark };
      nets = pos 0 ∷ pos 0 ∷ [];
      allocated = allocated;
      borders = (pos 0 ∷ pos 1 ∷ pos 1 ∷ minus 1 ∷ minus 1 ∷ []) ∷ [];
      rows = (pos 100000 ∷ frm ∷ pos 0 ∷ pos 0 ∷ r ∷ pos 0 ∷ pos 0 ∷ []) ∷ [];
      factors = pos 20000 ∷ pos 0 ∷ [];
    }

abbrev small : (share frm r : ℤ) → Table
small share frm r = small_in 0 [] share frm r

pub anchors : Hold (
    -- Fmax 100000, FRM 50000, R 7000, F0core 10000, F0all 0: Fuaf 10000, Base 40000, AMR 70000 - 10000 - 40000
    amr_of (pos 7000) (row_of (pos 100000 ∷ pos 50000 ∷ pos 0 ∷ pos 0 ∷ pos 7000 ∷ pos 0 ∷ pos 0 ∷ [])) (grains (pos 10000)) is grains (pos 20000)  -- fuaf
    -- p 10000 on two borders, of LTA 100 and 200 MW: S is their sum
    ∷ s_of (pos 20000 ∷ pos 10000 ∷ pos 0 ∷ []) ((pos 0 ∷ pos 1 ∷ pos 100 ∷ minus 1 ∷ minus 1 ∷ []) ∷ (pos 1 ∷ pos 2 ∷ pos 200 ∷ minus 1 ∷ minus 1 ∷ []) ∷ []) is 3000000000  -- s-sum
    -- borders 0 to 1 of LTA 100 MW and back of 50: the way back relieves the row, its p is 0, and S is the first border's part alone
    ∷ p_of (pos 20000 ∷ pos 0 ∷ []) (border_of (pos 1 ∷ pos 0 ∷ pos 50 ∷ minus 1 ∷ minus 1 ∷ [])) is 0  -- relieving-p
    ∷ s_of (pos 20000 ∷ pos 0 ∷ []) ((pos 0 ∷ pos 1 ∷ pos 100 ∷ minus 1 ∷ minus 1 ∷ []) ∷ (pos 1 ∷ pos 0 ∷ pos 50 ∷ minus 1 ∷ minus 1 ∷ []) ∷ []) is 2000000000  -- relieving-s
    -- a cable from zone 0 to zone 1 by hubs 2 and 3 (02, E3): 30000 - 8000 + 1000 - 20000, and by hubs 3 and 2: 30000 - 1000 + 8000 - 20000
    ∷ p_of (pos 30000 ∷ pos 20000 ∷ pos 8000 ∷ pos 1000 ∷ []) (border_of (pos 0 ∷ pos 1 ∷ pos 50 ∷ pos 2 ∷ pos 3 ∷ [])) is 3000  -- cable
    ∷ p_of (pos 30000 ∷ pos 20000 ∷ pos 8000 ∷ pos 1000 ∷ []) (border_of (pos 0 ∷ pos 1 ∷ pos 50 ∷ pos 3 ∷ pos 2 ∷ [])) is 17000  -- cable-turned
    -- a row's margin starts at RAM - S
    ∷ margin_of (small (minus 1) (pos 0) (pos 0)) 0 is pos 9980000000  -- starts
    -- in the intraday profile a row's margin starts at RAM less the sum of factor times T, here 20000 x 2000; S is not taken off, and it may be below 0
    ∷ margin_of (small_in 1 (pos 2000 ∷ minus 2000 ∷ []) (minus 1) (pos 0) (pos 0)) 0 is pos 9960000000  -- intraday
    ∷ margin_of (small_in 1 (minus 1000 ∷ pos 1000 ∷ []) (minus 1) (pos 0) (pos 0)) 0 is pos 10020000000  -- remainder
    ∷ margin_of (small_in 1 (pos 500001 ∷ minus 500001 ∷ []) (minus 1) (pos 0) (pos 0)) 0 is minus 20000  -- negative
    -- FRM 50000, "-": a default of 9000 that was written, and 7000 where none was
    ∷ ram_at (small (pos 9000) (pos 50000) (minus 1)) 0 is pos 9000000000  -- default-9000
    ∷ ram_at (small (minus 1) (pos 50000) (minus 1)) 0 is pos 7000000000  -- default-none
    ∷ [])
unfolding sum largest sum_ℤ max_ℤ positive_part hubs_of border_of share_of row_of worth default_of stretch grains f0core_of fuaf_of base_of amr_of signed_factor p_of lta_kw corner_part s_of lta_margin_of ram_of ram_at
anchors = refl
