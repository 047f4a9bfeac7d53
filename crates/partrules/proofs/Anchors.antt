-- Computed records: rows of the hour that 01 checks whole, and small rows that tell wrong definitions apart. Nobody cites them: they refuse a definition that slipped.
use mathlib.Core.Path.{refl}
use mathlib.Core.List.{List, [], ◌∷◌}
use Prim.Native.Nat.{ℕ}
use lib.IntN.{ℤ, pos}
use Rattle.numbers.specs.Below.{if_zero, sum, count, table, first_from, given}
use Rattle.numbers.specs.Ints.{minus, max_ℤ, min_ℤ, positive_part, same_ℤ, sum_ℤ}
use Rattle.numbers.specs.Computed.{◌is◌, Hold}
use Rattle.types.specs.Ranges.{hubs_of, border_of, share_of, row_of, worth, default_of}
use Rattle.tablerules.specs.Table.{Table, stretch}
use Rattle.marginrules.specs.Margin.{grains, f0core_of, fuaf_of, base_of, amr_of, signed_factor, p_of, lta_kw, s_of, lta_margin_of, ram_of, ram_at}
use Rattle.staterules.specs.States.{highest, lowest, spread_of, shifted, below, state_of}
use Rattle.partrules.specs.Parts.{n_of, start_from, parts_of, record_of}

-- the hour of 01
abbrev hour : Table
hour =
    record {
      header = record { zones = 3; borders = 2; rows = 4; share = minus 1; intraday = 0 };
      nets = pos 500000 ∷ minus 200000 ∷ minus 300000 ∷ [];
      allocated = [];
      borders = (pos 0 ∷ pos 1 ∷ pos 100 ∷ minus 1 ∷ minus 1 ∷ []) ∷ (pos 1 ∷ pos 2 ∷ pos 200 ∷ minus 1 ∷ minus 1 ∷ []) ∷ [];
      rows =
          (pos 1000000 ∷ pos 200000 ∷ pos 200000 ∷ pos 150000 ∷ pos 7000 ∷ pos 0 ∷ pos 80000 ∷ [])
          ∷ (pos 100000 ∷ pos 10000 ∷ pos 15000 ∷ pos 0 ∷ pos 7000 ∷ pos 0 ∷ pos 0 ∷ [])
          ∷ (pos 100000 ∷ pos 0 ∷ pos 0 ∷ pos 0 ∷ pos 0 ∷ pos 0 ∷ pos 0 ∷ [])
          ∷ (pos 1000000 ∷ pos 0 ∷ pos 130000 ∷ pos 0 ∷ pos 7000 ∷ pos 0 ∷ pos 0 ∷ [])
          ∷ [];
      factors =
          pos 30000 ∷ pos 10000 ∷ pos 0
          ∷ pos 5000 ∷ pos 5000 ∷ pos 0
          ∷ pos 4999 ∷ pos 0 ∷ pos 0
          ∷ pos 20000 ∷ pos 0 ∷ minus 10000
          ∷ [];
    }

-- 01, "Edge figures": Fmax 10000 kW, one border with p 20000 and LTA 100 MW; and its IVA, its T and its CVA
abbrev small : (mark : ℕ) → (allocated : List ℤ) → (cva iva : ℤ) → Table
small mark allocated cva iva =
    record {
      header = record { zones = 2; borders = 1; rows = 1; share = minus 1; intraday = mark };
      nets = pos 0 ∷ pos 0 ∷ [];
      allocated = allocated;
      borders = (pos 0 ∷ pos 1 ∷ pos 100 ∷ minus 1 ∷ minus 1 ∷ []) ∷ [];
      rows = (pos 10000 ∷ pos 0 ∷ pos 0 ∷ pos 0 ∷ minus 1 ∷ cva ∷ iva ∷ []) ∷ [];
      factors = pos 20000 ∷ pos 0 ∷ [];
    }

pub anchors : Hold (
    -- row 0, kept: F0core 7e9, Fuaf 7e9 - 15e9, Base 100e9 - 20e9 - 7e9, AMR 70e9 + 8e9 - 73e9, S 2e9 + 2e9, RAM 73e9 + 5e9 - 8e9, and less S
    record_of (parts_of hour 0) is (pos 0 ∷ pos 2 ∷ pos 7000000000 ∷ minus 8000000000 ∷ pos 73000000000 ∷ pos 5000000000 ∷ pos 4000000000 ∷ pos 0 ∷ pos 0 ∷ pos 8000000000 ∷ pos 70000000000 ∷ pos 66000000000 ∷ [])  -- kept
    -- row 2, of state 1: n and the starting margin are the row's own, though it takes no part
    ∷ record_of (parts_of hour 2) is (pos 1 ∷ pos 1 ∷ minus 2499500000 ∷ minus 2499500000 ∷ pos 12499500000 ∷ pos 0 ∷ pos 499900000 ∷ pos 0 ∷ pos 0 ∷ pos 0 ∷ pos 12499500000 ∷ pos 11999600000 ∷ [])  -- dropped
    -- row 3, of state 2
    ∷ record_of (parts_of hour 3) is (pos 2 ∷ pos 2 ∷ pos 0 ∷ pos 0 ∷ pos 100000000000 ∷ pos 0 ∷ pos 4000000000 ∷ pos 0 ∷ pos 0 ∷ pos 0 ∷ pos 100000000000 ∷ pos 96000000000 ∷ [])  -- stood-for
    -- the LTA margin lifts RAM to S; CVA 2 and IVA 1 are 200000 and 100000 grains, and RAM - S is then below 0: the extraction refuses (7), and `margins` does not
    ∷ record_of (parts_of (small 0 [] (pos 2) (pos 1)) 0) is (pos 0 ∷ pos 1 ∷ pos 0 ∷ pos 0 ∷ pos 1000000000 ∷ pos 0 ∷ pos 2000000000 ∷ pos 1000000000 ∷ pos 200000 ∷ pos 100000 ∷ pos 1999700000 ∷ minus 300000 ∷ [])  -- lifted
    -- intraday: RAM 2e9 less 20000 x 60000, and less 20000 x 110000, which is taken as 0
    ∷ (parts_of (small 1 (pos 60000 ∷ minus 60000 ∷ []) (pos 0) (pos 0)) 0).start is pos 800000000  -- remainder
    ∷ (parts_of (small 1 (pos 110000 ∷ minus 110000 ∷ []) (pos 0) (pos 0)) 0).start is pos 0  -- no-remainder
    ∷ [])
unfolding if_zero sum count table first_from given max_ℤ min_ℤ positive_part same_ℤ sum_ℤ hubs_of border_of share_of row_of worth default_of stretch grains f0core_of fuaf_of base_of amr_of signed_factor p_of lta_kw s_of lta_margin_of ram_of ram_at highest lowest spread_of shifted below state_of n_of start_from parts_of
anchors = refl
