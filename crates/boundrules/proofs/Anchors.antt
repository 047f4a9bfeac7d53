-- The bound of the hour that 01 checks whole, computed, with every border and with one marked; and tables that the rounds do not start from. Nobody cites them: they
-- refuse a definition that slipped.
use Rattle.std.specs.Prelude.{Err, Ok}
use mathlib.Core.Path.{◌≡◌, refl, sym, subst, ◌∙◌}
use mathlib.Core.Bool.{true, false}
use mathlib.Core.List.{[], ◌∷◌}
use Prim.Native.Nat.{ℕ, ◌≤◌}
use native.Mathlib.Omega.{arith}
use lib.IntN.{ℤ, pos}
use Rattle.numbers.specs.Below.{if_zero, sum, count, largest, lesser, least, or_zero, table, first_from, given}
use Rattle.numbers.specs.Ints.{minus, max_ℤ, min_ℤ, positive_part, same_ℤ, sum_ℤ, inside}
use Rattle.refusals.specs.Refusals.{Judged, then, unless, refuse_at, refuse_first, need, bad_mark, unlimited, below_zero}
use Rattle.refusals.proofs.RefusalLaws.{passed_is}
use Rattle.types.specs.Ranges.{header_fits, allocated_items, zone_fits, exists, hubs_fit, hubs_of, border_fits, border_of, share_of, row_of, row_fits, factor_fits, worth, default_of}
use Rattle.marks.specs.Marks.{marked_by, faulty_mark, judge_marks}
use Rattle.tablerules.specs.Table.{Table, stretch, balanced, twice, room_for, judge_shape, judge_for}
use Rattle.rounds.specs.Rounds.{sharers, alone, most_sharers, bits_to, bits, alone_bits}
use Rattle.marginrules.specs.Margin.{grains, f0core_of, fuaf_of, base_of, amr_of, signed_factor, p_of, lta_kw, s_of, lta_margin_of, ram_of, ram_at}
use Rattle.staterules.specs.States.{highest, lowest, spread_of, shifted, below, state_of, kept}
use Rattle.staterules.specs.Standings.{standings_of}
use Rattle.setup.specs.Setup.{grid_by, begin_by, judge_by}
use Rattle.extractrules.specs.Start.{setup_with}
use Rattle.tightrules.specs.declared.RoundsMost.{RoundsMost}
use Rattle.tightrules.specs.Tight.{equal_share_up, cut, steps_within, steps, row_reach, reach, farthest, tight_bound}
use Rattle.tightrules.specs.Measure.{bound_by}
use Rattle.boundrules.specs.Bound.{bound_marked, bound_for, AtMost}

-- the hour of 01
abbrev hour : Table
hour =
    record {
      header = record { zones = 3; borders = 2; rows = 4; share = minus 1; intraday = 0 };
      nets = pos 500000 ∷ minus 200000 ∷ minus 300000 ∷ [];
      allocated = [];
      borders = (pos 0 ∷ pos 1 ∷ pos 100 ∷ minus 1 ∷ minus 1 ∷ []) ∷ (pos 1 ∷ pos 2 ∷ pos 200 ∷ minus 1 ∷ minus 1 ∷ []) ∷ [];
      rows =
          (pos 1000000 ∷ pos 200000 ∷ pos 200000 ∷ pos 150000 ∷ pos 7000 ∷ pos 0 ∷ pos 80000 ∷ [])
          ∷ (pos 100000 ∷ pos 10000 ∷ pos 15000 ∷ pos 0 ∷ pos 7000 ∷ pos 0 ∷ pos 0 ∷ [])
          ∷ (pos 100000 ∷ pos 0 ∷ pos 0 ∷ pos 0 ∷ pos 0 ∷ pos 0 ∷ pos 0 ∷ [])
          ∷ (pos 1000000 ∷ pos 0 ∷ pos 130000 ∷ pos 0 ∷ pos 7000 ∷ pos 0 ∷ pos 0 ∷ [])
          ∷ [];
      factors =
          pos 30000 ∷ pos 10000 ∷ pos 0
          ∷ pos 5000 ∷ pos 5000 ∷ pos 0
          ∷ pos 4999 ∷ pos 0 ∷ pos 0
          ∷ pos 20000 ∷ pos 0 ∷ minus 10000
          ∷ [];
    }

-- Fmax 10000 kW, borders 0 to 1 of p 20000 and LTA 100 MW, and back, which no row limits; and the row's IVA
abbrev small : (iva : ℤ) → Table
small iva =
    record {
      header = record { zones = 2; borders = 2; rows = 1; share = minus 1; intraday = 0 };
      nets = pos 0 ∷ pos 0 ∷ [];
      allocated = [];
      borders = (pos 0 ∷ pos 1 ∷ pos 100 ∷ minus 1 ∷ minus 1 ∷ []) ∷ (pos 1 ∷ pos 0 ∷ pos 0 ∷ minus 1 ∷ minus 1 ∷ []) ∷ [];
      rows = (pos 10000 ∷ pos 0 ∷ pos 0 ∷ pos 0 ∷ pos 0 ∷ pos 0 ∷ iva ∷ []) ∷ [];
      factors = pos 20000 ∷ pos 0 ∷ [];
    }

abbrev most : (n l rounds sharp : ℕ) → Judged RoundsMost
most n l rounds sharp = Ok (record { sharers = n; bits = l; rounds = rounds; sharp = sharp })

pub record Anchors : Type 0 where
  -- 01: N = 2, L = 22, bound 88. Border 0 can rise by 3,299,999 kW in all, which a cut by half, rounded up, takes to 0 in 22 steps
  pub worked : bound_for true [] hour ≡ most 2 22 88 22
  -- border 1 alone is marked: no row shares, and it could take 1,600,000 kW, under 2^21, at once
  pub marked : bound_for false (1 ∷ []) hour ≡ most 1 21 42 1
  -- 13 comes before 6, and 6 looks at marked borders only; then 7
  pub no_mark : bound_for false [] (small (pos 1)) ≡ Err (bad_mark 0)
  pub no_border_lem : bound_for false (0 ∷ 2 ∷ []) (small (pos 1)) ≡ Err (bad_mark 2)
  pub free : bound_for true [] (small (pos 1)) ≡ Err (unlimited 1)
  pub low : bound_for false (0 ∷ []) (small (pos 1)) ≡ Err (below_zero 0)
  -- a margin of 0: L is 0, and so are the rounds
  pub no_room : bound_for false (0 ∷ []) (small (pos 0)) ≡ most 1 0 0 0

pub anchors : Anchors
unfolding if_zero sum count largest lesser least or_zero table first_from given max_ℤ min_ℤ positive_part same_ℤ sum_ℤ inside header_fits allocated_items zone_fits exists hubs_fit hubs_of border_fits border_of share_of row_of row_fits factor_fits worth default_of then unless refuse_at refuse_first need marked_by faulty_mark judge_marks stretch balanced twice room_for judge_shape judge_for sharers alone most_sharers bits_to bits alone_bits grains f0core_of fuaf_of base_of amr_of signed_factor p_of lta_kw s_of lta_margin_of ram_of ram_at highest lowest spread_of shifted below state_of grid_by begin_by judge_by standings_of kept setup_with equal_share_up cut steps_within steps row_reach reach farthest tight_bound bound_by bound_marked bound_for
anchors = record { worked = refl; marked = refl; no_mark = refl; no_border_lem = refl; free = refl; low = refl; no_room = refl }

-- ---- the statement
-- what `AtMost` says of 01's hour, by its numbers
module _ {k : ℕ} (d : AtMost (bound_for true [] hour) k) where
  is : record { sharers = 2; bits = 22; rounds = 88; sharp = 22 } ≡ d.most
  is = passed_is _ _ (sym anchors.worked ∙ d.answered)

  few : k ≤ 88
  few = subst (λ (m : RoundsMost). k ≤ m.rounds) (sym is) d.few

  sharp : k ≤ 22
  sharp = subst (λ (m : RoundsMost). k ≤ m.sharp) (sym is) d.sharp

  sharper : 22 ≤ 88
  sharper = subst (λ (m : RoundsMost). m.sharp ≤ m.rounds) (sym is) d.sharper

pub record Statement : Type 0 where
  -- more rounds than the sharper bound
  pub many : AtMost (bound_for true [] hour) 23 → ⊥

pub statement : Statement
statement = record { many = λ d. omega (arith, sharp d) }
