-- What a call with claims (02, E10) judges of the tables before the claims, computed: 4, and none of 5 to 7. Nobody cites it: it refuses an order that slipped.
use Rattle.std.specs.Prelude.{Err, Ok}
use mathlib.Core.Path.{◌≡◌, refl}
use mathlib.Core.List.{List, [], ◌∷◌}
use Prim.Native.Nat.{ℕ}
use lib.IntN.{ℤ, pos}
use Rattle.numbers.specs.Below.{if_zero, sum, table, first_from, given}
use Rattle.numbers.specs.Ints.{minus, max_ℤ, min_ℤ, positive_part, same_ℤ, inside, sum_ℤ}
use Rattle.refusals.specs.Refusals.{Judged, then, unless, refuse_at, refuse_first, need, below_zero, given_twice, no_row, unlimited}
use Rattle.types.specs.Ranges.{header_fits, allocated_items, zone_fits, exists, hubs_fit, hubs_of, border_fits, border_of, share_of, row_of, row_fits, factor_fits, worth, default_of}
use Rattle.tablerules.specs.Table.{Table, stretch, balanced, twice, room_for, judge_shape, judge_for}
use Rattle.marginrules.specs.Margin.{grains, f0core_of, fuaf_of, base_of, amr_of, signed_factor, p_of, lta_kw, s_of, lta_margin_of, ram_of, ram_at}
use Rattle.staterules.specs.States.{highest, lowest, spread_of, shifted, below, state_of, kept}
use Rattle.staterules.specs.Standings.{Standings, standings_of}
use Rattle.setup.specs.Setup.{grid_by, judge_by}
use Rattle.extractrules.specs.Start.{every, setup_with, judge_marked}
use Rattle.claimrules.specs.Claims.{judge_claims, claims_of, claims_answer}

-- border 0 to 1 with an LTA of 100 MW, so many times, and a row of Fmax 10000 kW with this IVA and factors
abbrev hour : (times iva : ℕ) → (factors : List ℤ) → Table
hour times iva factors =
    record {
      header = record { zones = 2; borders = times; rows = 1; share = minus 1; intraday = 0 };
      nets = pos 0 ∷ pos 0 ∷ [];
      allocated = [];
      borders = table times (λ b. pos 0 ∷ pos 1 ∷ pos 100 ∷ minus 1 ∷ minus 1 ∷ []);
      rows = (pos 10000 ∷ pos 0 ∷ pos 0 ∷ pos 0 ∷ pos 0 ∷ pos 0 ∷ pos iva ∷ []) ∷ [];
      factors = factors;
    }

-- its row, with this RAM and state
abbrev row : (ram state : ℕ) → Standings
row ram state = record { rams = pos ram ∷ []; states = state ∷ [] }

-- a claim of a row that the table does not have
abbrev malformed : List ℤ
malformed = pos 9 ∷ pos 1 ∷ pos 0 ∷ []

-- what the extraction judges of a table before its first round
abbrev starts : Table → Judged (List ℕ)
starts t = judge_marked every t

pub record OrderAnchors : Type 0 where
  -- a border given twice and a malformed claim: 4, place 1
  pub twice_first : claims_answer (hour 2 0 (pos 20000 ∷ pos 0 ∷ [])) (malformed ∷ []) ≡ Err (given_twice 1)
  -- tables that the extraction refuses by 5, 6 and 7: with no claims each is passed
  pub five : starts (hour 1 0 (pos 4999 ∷ pos 0 ∷ [])) ≡ Err (no_row)
  pub not_five : claims_answer (hour 1 0 (pos 4999 ∷ pos 0 ∷ [])) [] ≡ Ok (row 1000000000 1)
  pub six : starts (hour 1 0 (pos 0 ∷ pos 20000 ∷ [])) ≡ Err (unlimited 0)
  pub not_six : claims_answer (hour 1 0 (pos 0 ∷ pos 20000 ∷ [])) [] ≡ Ok (row 1000000000 0)
  pub seven : starts (hour 1 1 (pos 20000 ∷ pos 0 ∷ [])) ≡ Err (below_zero 0)
  pub not_seven : claims_answer (hour 1 1 (pos 20000 ∷ pos 0 ∷ [])) [] ≡ Ok (row 1999900000 0)

pub order_anchors : OrderAnchors
unfolding if_zero sum table first_from given max_ℤ min_ℤ positive_part same_ℤ inside sum_ℤ header_fits allocated_items zone_fits exists hubs_fit hubs_of border_fits border_of share_of row_of row_fits factor_fits worth default_of then unless refuse_at refuse_first need stretch balanced twice room_for judge_shape judge_for grains f0core_of fuaf_of base_of amr_of signed_factor p_of lta_kw s_of lta_margin_of ram_of ram_at highest lowest spread_of shifted below state_of grid_by judge_by standings_of kept setup_with judge_claims claims_of claims_answer
order_anchors = record { twice_first = refl; five = refl; not_five = refl; six = refl; not_six = refl; seven = refl; not_seven = refl }
