-- The most rounds, from the largest starts, and what the statements say of the hour that 01 checks whole, computed. Nobody cites them: they refuse a definition or a
-- statement that slipped.
use mathlib.Core.Path.{refl}
use mathlib.Core.Bool.{Bool, true, false}
use mathlib.Core.List.{[], ◌∷◌}
use Prim.Native.Nat.{ℕ, ◌+◌, ◌≤◌}
use native.Mathlib.Omega.{arith}
use lib.Dec.{eqb}
use lib.IntN.{pos}
use Rattle.numbers.specs.Below.{if_zero, sum, count, largest, lesser, least, or_zero, table, first_from, given}
use Rattle.numbers.specs.Ints.{minus, max_ℤ, min_ℤ, positive_part, sum_ℤ, same_ℤ}
use Rattle.numbers.specs.Computed.{◌is◌, Hold}
use Rattle.limits.specs.Limits.{borders_most}
use Rattle.types.specs.Ranges.{hubs_of, border_of, share_of, row_of, worth, default_of}
use Rattle.tablerules.specs.Table.{Table, stretch}
use Rattle.rounds.specs.Rounds.{sharers, alone, most_sharers, bits_to, bits, alone_bits}
use Rattle.marginrules.specs.Margin.{grains, f0core_of, fuaf_of, base_of, amr_of, signed_factor, p_of, lta_kw, s_of, lta_margin_of, ram_of, ram_at}
use Rattle.staterules.specs.States.{highest, lowest, spread_of, shifted, below, state_of, kept}
use Rattle.staterules.specs.Standings.{standings_of}
use Rattle.setup.specs.Setup.{grid_by, begin_by}
use Rattle.extractrules.specs.Start.{every, setup_with}
use Rattle.tightrules.specs.Tight.{equal_share_up, cut, steps_within, steps, row_reach, reach, farthest, tight_bound}
use Rattle.tightrules.specs.Measure.{bound_by}
use Rattle.worst.specs.Worst.{start_top, lta_top, late_top, rounds_worst, Known}

-- the hour of 01, and the same hour with another profile in its header
abbrev hour : (intraday : ℕ) → Table
hour intraday =
    record {
      header = record { zones = 3; borders = 2; rows = 4; share = minus 1; intraday = intraday };
      nets = pos 500000 ∷ minus 200000 ∷ minus 300000 ∷ [];
      allocated = [];
      borders = (pos 0 ∷ pos 1 ∷ pos 100 ∷ minus 1 ∷ minus 1 ∷ []) ∷ (pos 1 ∷ pos 2 ∷ pos 200 ∷ minus 1 ∷ minus 1 ∷ []) ∷ [];
      rows =
          (pos 1000000 ∷ pos 200000 ∷ pos 200000 ∷ pos 150000 ∷ pos 7000 ∷ pos 0 ∷ pos 80000 ∷ [])
          ∷ (pos 100000 ∷ pos 10000 ∷ pos 15000 ∷ pos 0 ∷ pos 7000 ∷ pos 0 ∷ pos 0 ∷ [])
          ∷ (pos 100000 ∷ pos 0 ∷ pos 0 ∷ pos 0 ∷ pos 0 ∷ pos 0 ∷ pos 0 ∷ [])
          ∷ (pos 1000000 ∷ pos 0 ∷ pos 130000 ∷ pos 0 ∷ pos 7000 ∷ pos 0 ∷ pos 0 ∷ [])
          ∷ [];
      factors =
          pos 30000 ∷ pos 10000 ∷ pos 0
          ∷ pos 5000 ∷ pos 5000 ∷ pos 0
          ∷ pos 4999 ∷ pos 0 ∷ pos 0
          ∷ pos 20000 ∷ pos 0 ∷ minus 10000
          ∷ [];
    }

-- the second border alone
abbrev second : (b : ℕ) → Bool
second b = eqb b 1

pub tops : Hold (
    -- the largest start without T lines, grains, and the largest quotient of a start with them and its factor, kW
    start_top is 165000000000000  -- start
    ∷ (late_top + lta_top) is 412000010000000  -- late-start
    -- 64 borders cut these so often
    ∷ rounds_worst false is steps borders_most start_top  -- day
    ∷ rounds_worst true is steps borders_most (late_top + lta_top)  -- late
    ∷ [])
unfolding equal_share_up cut steps_within steps
tops = refl

pub record Statement : Type 0 where
  -- 01's hour has 21 rounds, and can have 22; 88 is 2 N L
  pub sharper : Known every (hour 0) 21 → 22 ≤ 88
  pub worst : Known every (hour 0) 21 → 22 ≤ 1852
  pub many : Known every (hour 0) 23 → ⊥
  -- with the second border alone marked there is at most 1 round
  pub many_marked : Known second (hour 0) 2 → ⊥
  -- more rounds than any table has
  pub most : Known every (hour 0) 1853 → ⊥
  pub late_most : Known every (hour 1) 1911 → ⊥

pub statement : Statement
unfolding if_zero sum count largest lesser least or_zero table first_from given max_ℤ min_ℤ positive_part sum_ℤ same_ℤ hubs_of border_of share_of row_of worth default_of stretch sharers alone most_sharers bits_to bits alone_bits grains f0core_of fuaf_of base_of amr_of signed_factor p_of lta_kw s_of lta_margin_of ram_of ram_at highest lowest spread_of shifted below state_of grid_by begin_by standings_of kept setup_with equal_share_up cut steps_within steps row_reach reach farthest tight_bound bound_by
statement =
    record {
      sharper = λ d. d.sharper;
      worst = λ d. d.worst;
      many = λ d. let h : 23 ≤ 22 = d.sharp in omega arith;
      many_marked = λ d. let h : 2 ≤ 1 = d.sharp in omega arith;
      most = λ d. let h : 1853 ≤ 1852 = d.most in omega arith;
      late_most = λ d. let h : 1911 ≤ 1910 = d.most in omega arith;
    }
