-- A small table to which both 6 and 7 apply. Nobody cites it: it refuses a definition that slipped.
use Rattle.std.specs.Prelude.{Err}
use mathlib.Core.Path.{◌≡◌, refl}
use mathlib.Core.List.{[], ◌∷◌}
use lib.IntN.{pos}
use Rattle.numbers.specs.Below.{if_zero, sum, table, first_from, given}
use Rattle.numbers.specs.Ints.{minus, max_ℤ, min_ℤ, positive_part, same_ℤ, sum_ℤ}
use Rattle.refusals.specs.Refusals.{then, unless, refuse_at, refuse_first, unlimited}
use Rattle.types.specs.Ranges.{hubs_of, border_of, share_of, row_of, worth, default_of}
use Rattle.tablerules.specs.Table.{Table, stretch}
use Rattle.marginrules.specs.Margin.{grains, f0core_of, fuaf_of, base_of, amr_of, signed_factor, p_of, lta_kw, s_of, lta_margin_of, ram_of, ram_at}
use Rattle.staterules.specs.States.{highest, lowest, spread_of, shifted, below, state_of, kept}
use Rattle.setup.specs.Setup.{grid_by, judge_by}
use Rattle.staterules.specs.Standings.{standings_of}
use Rattle.extractrules.specs.Start.{setup_with}
use Rattle.extractrules.specs.Extraction.{outcome_marked, outcome_of}

-- IVA 1 takes row 0 below 0, and no row limits border 1
abbrev six_and_seven : Table
six_and_seven =
    record {
      header = record { zones = 2; borders = 2; rows = 1; share = minus 1; intraday = 0 };
      nets = pos 0 ∷ pos 0 ∷ [];
      allocated = [];
      borders = (pos 0 ∷ pos 1 ∷ pos 100 ∷ minus 1 ∷ minus 1 ∷ []) ∷ (pos 1 ∷ pos 0 ∷ pos 0 ∷ minus 1 ∷ minus 1 ∷ []) ∷ [];
      rows = (pos 10000 ∷ pos 0 ∷ pos 0 ∷ pos 0 ∷ pos 0 ∷ pos 0 ∷ pos 1 ∷ []) ∷ [];
      factors = pos 20000 ∷ pos 0 ∷ [];
    }

pub six_before_seven : outcome_of six_and_seven ≡ Err (unlimited 1)
unfolding outcome_marked if_zero sum table first_from given max_ℤ min_ℤ positive_part same_ℤ sum_ℤ hubs_of border_of share_of row_of worth default_of then unless refuse_at refuse_first stretch grains f0core_of fuaf_of base_of amr_of signed_factor p_of lta_kw s_of lta_margin_of ram_of ram_at highest lowest spread_of shifted below state_of standings_of kept outcome_of grid_by setup_with judge_by
six_before_seven = refl
