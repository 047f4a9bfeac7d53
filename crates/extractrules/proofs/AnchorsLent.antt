-- What `extract` and `extract_marked` leave of a small hour in lent memory that holds something else. Nobody cites it: it refuses a definition that slipped, by the number that comes out.
use Rattle.std.specs.Prelude.{Err, Ok}
use mathlib.Core.Path.{refl}
use mathlib.Core.List.{List, [], ◌∷◌}
use Prim.Native.Nat.{ℕ}
use lib.IntN.{ℤ, pos}
use lib.ListN.{replicate}
use Rattle.numbers.specs.Below.{if_zero, sum, count, lesser, least, or_zero, table, first_from, given}
use Rattle.numbers.specs.Ints.{minus, max_ℤ, min_ℤ, positive_part, same_ℤ, inside, sum_ℤ}
use Rattle.numbers.specs.Computed.{◌is◌, Hold}
use Rattle.refusals.specs.Refusals.{then, either, unless, refuse_at, refuse_first, need, bad_mark, below_zero, out_of_range_at, too_short}
use Rattle.types.specs.Ranges.{header_fits, allocated_items, zone_fits, exists, hubs_fit, border_fits, hubs_of, border_of, share_of, row_of, row_fits, factor_fits, worth, default_of}
use Rattle.marks.specs.Marks.{marked_by, faulty_mark, judge_marks}
use Rattle.tablerules.specs.Table.{Table, stretch, balanced, twice, room_for, judge_shape, judge_for}
use Rattle.rounds.specs.Rounds.{sharers, raise, raises, load, lowered, risen, apply, next, raised, counted, run, extract}
use Rattle.rounds.specs.Last.{after, raise_in, last_to, last_round}
use Rattle.rounds.specs.Stopping.{stop_row}
use Rattle.marginrules.specs.Margin.{grains, f0core_of, fuaf_of, base_of, amr_of, signed_factor, p_of, lta_kw, s_of, lta_margin_of, ram_of, ram_at}
use Rattle.staterules.specs.States.{highest, lowest, spread_of, shifted, below, state_of, kept}
use Rattle.setup.specs.Setup.{grid_by, begin_by, judge_by}
use Rattle.staterules.specs.Standings.{standings_of}
use Rattle.extractrules.specs.Start.{setup_with}
use Rattle.extractrules.specs.Extraction.{result_marked, result_of, atc_of, left_of, last_of, stop_of, outcome_marked, outcome_of, outcome_for, atc_record, row_record, ExtractLeft, extract_for, extract_left, extract_marked_left}

-- rows 0 and 1 limit a border each, 15 kW and 10 kW, row 2 is under 5%; FRM and IVA of row 0 are one's own
abbrev small_in : (mark : ℕ) → (allocated : List ℤ) → (frm iva : ℕ) → Table
small_in mark allocated frm iva =
    record {
      header = record { zones = 2; borders = 2; rows = 3; share = minus 1; intraday = mark };
      nets = pos 0 ∷ pos 0 ∷ [];
      allocated = allocated;
      borders = (pos 0 ∷ pos 1 ∷ pos 0 ∷ minus 1 ∷ minus 1 ∷ []) ∷ (pos 1 ∷ pos 0 ∷ pos 0 ∷ minus 1 ∷ minus 1 ∷ []) ∷ [];
      rows =
          (pos 3 ∷ pos frm ∷ pos 0 ∷ pos 0 ∷ pos 0 ∷ pos 0 ∷ pos iva ∷ [])
          ∷ (pos 3 ∷ pos 0 ∷ pos 0 ∷ pos 0 ∷ pos 0 ∷ pos 0 ∷ pos 0 ∷ [])
          ∷ (pos 5 ∷ pos 0 ∷ pos 0 ∷ pos 0 ∷ pos 0 ∷ pos 0 ∷ pos 0 ∷ [])
          ∷ [];
      factors = pos 20000 ∷ pos 0 ∷ pos 0 ∷ pos 30000 ∷ pos 4999 ∷ pos 0 ∷ [];
    }

-- what `extract` leaves with a lent table of so many p
abbrev leaving : (frm iva items : ℕ) → ExtractLeft
leaving frm iva items = extract_left (small_in 0 [] frm iva) (replicate items 9) (replicate 2 []) (replicate 3 [])

pub anchors : Hold (
    -- p of each row at each border, row after row; zeros for the row that is not kept; beyond them no change. The one round raises both borders, and each is stopped by its row
    leaving 0 0 7 is (record {
      answer = Ok 1;
      p = 20000 ∷ 0 ∷ 0 ∷ 30000 ∷ 0 ∷ 0 ∷ 9 ∷ [];
      atcs = (pos 0 ∷ pos 1 ∷ pos 0 ∷ []) ∷ (pos 0 ∷ pos 1 ∷ pos 1 ∷ []) ∷ [];
      lefts = (pos 0 ∷ pos 300000 ∷ pos 0 ∷ []) ∷ (pos 0 ∷ pos 300000 ∷ pos 0 ∷ []) ∷ (pos 1 ∷ pos 500000 ∷ minus 1 ∷ []) ∷ [];
    })  -- accepted
    -- refusal 7 does not change the table of p
    ∷ leaving 0 4 7 is (record { answer = Err (below_zero 0); p = replicate 7 9; atcs = replicate 2 []; lefts = replicate 3 [] })  -- below
    -- refusal 7 is not given in the intraday profile (02, E12): row 0 has RAM -1 kW, its remainder is below 0 and counts as 0; row 1 has 3 kW and gains 1.5 kW
    ∷ extract_left (small_in 1 (pos 5 ∷ minus 5 ∷ []) 0 4) (replicate 7 9) (replicate 2 []) (replicate 3 []) is (record {
      answer = Ok 1;
      p = 20000 ∷ 0 ∷ 0 ∷ 30000 ∷ 0 ∷ 0 ∷ 9 ∷ [];
      atcs = (pos 0 ∷ pos 0 ∷ pos 0 ∷ []) ∷ (pos 0 ∷ pos 1 ∷ pos 1 ∷ []) ∷ [];
      lefts = (pos 0 ∷ minus 100000 ∷ pos 0 ∷ []) ∷ (pos 0 ∷ pos 300000 ∷ pos 0 ∷ []) ∷ (pos 1 ∷ pos 500000 ∷ minus 1 ∷ []) ∷ [];
    })  -- intraday
    -- 8 looks at the table of p before records: here row 0 is out of range (3, line 6)
    ∷ (leaving 4 0 5).answer is Err (too_short 6)  -- short
    ∷ (leaving 4 0 6).answer is Err (out_of_range_at 6 0)  -- long
    -- border 1 alone marked (02, E13): border 0 stays, with last round 0 and no stopping row, and row 0 keeps its margin; the table of p is whole
    ∷ extract_marked_left (small_in 0 [] 0 0) (1 ∷ []) (replicate 7 9) (replicate 2 []) (replicate 3 []) is (record {
      answer = Ok 1;
      p = 20000 ∷ 0 ∷ 0 ∷ 30000 ∷ 0 ∷ 0 ∷ 9 ∷ [];
      atcs = (pos 0 ∷ pos 0 ∷ minus 1 ∷ []) ∷ (pos 0 ∷ pos 1 ∷ pos 1 ∷ []) ∷ [];
      lefts = (pos 0 ∷ pos 300000 ∷ pos 300000 ∷ []) ∷ (pos 0 ∷ pos 300000 ∷ pos 0 ∷ []) ∷ (pos 1 ∷ pos 500000 ∷ minus 1 ∷ []) ∷ [];
    })  -- marked
    -- both marked, in any order, is the ordinary answer
    ∷ extract_marked_left (small_in 0 [] 0 0) (1 ∷ 0 ∷ []) (replicate 7 9) (replicate 2 []) (replicate 3 []) is leaving 0 0 7  -- marked-both
    -- 13 comes before 7, and after records
    ∷ extract_marked_left (small_in 0 [] 0 4) (0 ∷ 0 ∷ []) (replicate 7 9) (replicate 2 []) (replicate 3 []) is (record { answer = Err (bad_mark 2); p = replicate 7 9; atcs = replicate 2 []; lefts = replicate 3 [] })  -- thirteen
    ∷ (extract_marked_left (small_in 0 [] 4 0) [] (replicate 7 9) (replicate 2 []) (replicate 3 [])).answer is Err (out_of_range_at 6 0)  -- thirteen-late
    ∷ [])
unfolding result_marked outcome_marked outcome_for extract_for extract_marked_left judge_marks faulty_mark marked_by if_zero sum count lesser least or_zero table first_from given max_ℤ min_ℤ positive_part same_ℤ inside sum_ℤ header_fits allocated_items zone_fits exists hubs_fit border_fits hubs_of border_of share_of row_of row_fits factor_fits worth default_of then either unless refuse_at refuse_first need stretch balanced twice room_for judge_shape sharers raise raises load lowered risen apply next raised counted run extract after raise_in last_to last_round stop_row grains f0core_of fuaf_of base_of amr_of signed_factor p_of lta_kw s_of lta_margin_of ram_of ram_at highest lowest spread_of shifted below state_of standings_of kept result_of atc_of left_of last_of stop_of outcome_of atc_record row_record judge_for extract_left grid_by setup_with begin_by judge_by
anchors = refl
