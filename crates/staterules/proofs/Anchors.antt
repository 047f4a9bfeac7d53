-- Small computed states. Nobody cites them: they refuse a definition that slipped (01, "Slips seen in hand sheets").
use mathlib.Core.Path.{refl}
use mathlib.Core.List.{List, [], ◌∷◌}
use Prim.Native.Nat.{ℕ}
use lib.IntN.{ℤ, pos}
use Rattle.numbers.specs.Below.{sum, table, first_from, given}
use Rattle.numbers.specs.Ints.{minus, max_ℤ, min_ℤ, positive_part, same_ℤ, sum_ℤ}
use Rattle.numbers.specs.Computed.{◌is◌, Hold}
use Rattle.types.specs.Ranges.{hubs_of, border_of, share_of, row_of, worth, default_of}
use Rattle.tablerules.specs.Table.{Table, stretch}
use Rattle.marginrules.specs.Margin.{grains, f0core_of, fuaf_of, base_of, amr_of, signed_factor, p_of, lta_kw, s_of, lta_margin_of, ram_of, ram_at, rams_of}
use Rattle.staterules.specs.States.{highest, lowest, spread_of, shifted, below, state_of, states_of}

-- rows of Fmax 100000 kW, their other values 0, with these factors; the border is from zone 0 to zone 1
abbrev rows_with : (zones rows : ℕ) → (factors : List ℤ) → Table
rows_with zones rows factors =
    record {
      header = record { zones = zones; borders = 1; rows = rows; share = minus 1; intraday = 0 };
      nets = table zones (λ z. pos 0);
      allocated = [];
      borders = (pos 0 ∷ pos 1 ∷ pos 0 ∷ minus 1 ∷ minus 1 ∷ []) ∷ [];
      rows = table rows (λ i. pos 100000 ∷ pos 0 ∷ pos 0 ∷ pos 0 ∷ pos 0 ∷ pos 0 ∷ pos 0 ∷ []);
      factors = factors;
    }

abbrev states_with : (zones rows : ℕ) → (factors : List ℤ) → List ℕ
states_with zones rows factors = let t = rows_with zones rows factors in states_of t.header t.factors (rams_of t)

pub anchors : Hold (
    -- spread 5000: kept; 4999: state 1
    states_with 2 1 (pos 5000 ∷ pos 0 ∷ []) is (0 ∷ [])  -- spread-5000
    ∷ states_with 2 1 (pos 4999 ∷ pos 0 ∷ []) is (1 ∷ [])  -- spread-4999
    -- zone 2 is in no border, and its factor counts for the spread (02, E3)
    ∷ states_with 3 1 (pos 0 ∷ pos 0 ∷ pos 5000 ∷ []) is (0 ∷ [])  -- outside-5000
    ∷ states_with 3 1 (pos 0 ∷ pos 0 ∷ pos 4999 ∷ []) is (1 ∷ [])  -- outside-4999
    -- of two rows with equal RAM and equal factors the second is state 2
    ∷ states_with 2 2 (pos 5000 ∷ pos 0 ∷ pos 5000 ∷ pos 0 ∷ []) is (0 ∷ 2 ∷ [])  -- tie
    ∷ [])
unfolding sum table first_from given max_ℤ min_ℤ positive_part same_ℤ sum_ℤ hubs_of border_of share_of row_of worth default_of stretch grains f0core_of fuaf_of base_of amr_of signed_factor p_of lta_kw s_of lta_margin_of ram_of ram_at highest lowest spread_of shifted below state_of
anchors = refl
