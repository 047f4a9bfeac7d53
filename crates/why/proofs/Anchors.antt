-- Small computed works with a border's reasons, and what `why` and `why_marked` leave of a small hour in lent memory that holds something else. Nobody cites them: they refuse a definition
-- that slipped, by the number that comes out.
use Rattle.std.specs.Prelude.{Err, Ok}
use mathlib.Core.Path.{refl}
use mathlib.Core.List.{List, [], ◌∷◌}
use Prim.Native.Nat.{ℕ}
use lib.IntN.{ℤ, pos}
use lib.ListN.{replicate}
use Rattle.numbers.specs.Below.{if_zero, sum, count, lesser, least, or_zero, table, first_from, given}
use Rattle.numbers.specs.Ints.{minus, max_ℤ, min_ℤ, positive_part, same_ℤ, inside, sum_ℤ}
use Rattle.numbers.specs.Computed.{◌is◌, Hold}
use Rattle.refusals.specs.declared.Refusal.{Refusal}
use Rattle.refusals.specs.Refusals.{then, either, unless, refuse_at, refuse_first, need, bad_mark, below_zero, too_short}
use Rattle.types.specs.declared.Header.{Header}
use Rattle.types.specs.Ranges.{header_fits, allocated_items, zone_fits, exists, hubs_fit, border_fits, hubs_of, border_of, share_of, row_of, row_fits, factor_fits, worth, default_of}
use Rattle.marks.specs.Marks.{marked_by, faulty_mark, judge_marks}
use Rattle.tablerules.specs.Table.{Table, stretch, balanced, twice, room_for, judge_shape, judge_for}
use Rattle.rounds.specs.Rounds.{sharers, raise, raises, load, lowered, risen, apply, next, raised, counted, run, extract}
use Rattle.rounds.specs.Last.{after, raise_in, last_to, last_round}
use Rattle.rounds.specs.Stopping.{stop_row}
use Rattle.marginrules.specs.Margin.{grains, f0core_of, fuaf_of, base_of, amr_of, signed_factor, p_of, lta_kw, s_of, lta_margin_of, ram_of, ram_at}
use Rattle.staterules.specs.States.{highest, lowest, spread_of, shifted, below, state_of, kept}
use Rattle.staterules.specs.Standings.{standings_of}
use Rattle.setup.specs.Setup.{grid_by, begin_by, judge_by}
use Rattle.extractrules.specs.Start.{setup_with}
use Rattle.holding.specs.Holding.{end_row}
use Rattle.holding.proofs.Anchors.{two, from, nested, lone}
use Rattle.holding.specs.declared.Reasons.{Reasons}
use Rattle.why.specs.Why.{Why, why_by, why_marked, end_record, row_record, reasons_of, no_border, reasons_marked, reasons_for, WhyLeft, judged_left, why_for, why_left, why_marked_left}

-- ---- works on two rows
abbrev header : Header
header = record { zones = 2; borders = 2; rows = 2; share = minus 1; intraday = 0 }

abbrev of : (ps : List (List ℕ)) → (margins : List ℕ) → (b : ℕ) → Why
of ps margins b = why_by header (0 ∷ 0 ∷ []) [] (two ps) (from margins) b

abbrev told : (rounds last : ℕ) → (named ended : ℤ) → Reasons
told rounds last named ended = record { rounds = rounds; last = last; named = named; ended = ended }

pub anchors_grid : Hold (
    -- of 40 and 3 grains border 0 rises by 20 and border 1 by 3, which empties row 1: it ends border 1's rise, though row 0, which comes first, is the one named when border 0 has emptied it
    reasons_of (of nested (40 ∷ 3 ∷ []) 1) is told 6 1 (pos 0) (pos 1)  -- two-rows
    ∷ table 2 (end_record (of nested (40 ∷ 3 ∷ []) 1)) is ((pos 5 ∷ pos 41 ∷ []) ∷ (pos 7 ∷ pos 10 ∷ []) ∷ [])  -- two-ends
    ∷ table 2 (row_record (of nested (40 ∷ 3 ∷ []) 1)) is ((pos 2 ∷ pos 1 ∷ pos 0 ∷ []) ∷ (pos 1 ∷ pos 0 ∷ pos 0 ∷ []) ∷ [])  -- two-hold
    -- row 1 does not limit border 0
    ∷ reasons_of (of nested (40 ∷ 3 ∷ []) 0) is told 6 6 (pos 0) (pos 0)  -- one-row
    ∷ table 2 (row_record (of nested (40 ∷ 3 ∷ []) 0)) is ((pos 2 ∷ pos 1 ∷ pos 0 ∷ []) ∷ (pos 1 ∷ pos 0 ∷ minus 1 ∷ []) ∷ [])  -- one-holds
    -- no round raises border 1: row 1 is empty from the start, and row 0 only at the end
    ∷ reasons_of (of nested (8 ∷ 0 ∷ []) 1) is told 3 0 (pos 0) (pos 1)  -- from-the-start
    -- there is no round at all: 1 grain among two borders
    ∷ reasons_of (of nested (1 ∷ 9 ∷ []) 1) is told 0 0 (pos 0) (pos 0)  -- no-round
    -- behind it, row 1 would allow border 1 nine kW
    ∷ table 2 (row_record (of nested (1 ∷ 9 ∷ []) 1)) is ((pos 2 ∷ pos 1 ∷ pos 0 ∷ []) ∷ (pos 1 ∷ pos 9 ∷ pos 9 ∷ []) ∷ [])  -- behind
    -- a border that no row loads
    ∷ reasons_of (of lone (0 ∷ 7 ∷ []) 1) is told 1 0 (minus 1) (minus 1)  -- unloaded
    ∷ [])
unfolding if_zero sum count lesser least or_zero table first_from sharers raise raises load lowered risen apply next raised counted run extract after raise_in last_to last_round stop_row end_row end_record row_record reasons_of
anchors_grid = refl

-- ---- a small hour: rows 0 and 1 limit a border each, 15 kW and 10 kW, row 2 is under 5%; IVA of row 0 is one's own
abbrev pub small : (iva : ℕ) → Table
small iva =
    record {
      header = record { zones = 2; borders = 2; rows = 3; share = minus 1; intraday = 0 };
      nets = pos 0 ∷ pos 0 ∷ [];
      allocated = [];
      borders = (pos 0 ∷ pos 1 ∷ pos 0 ∷ minus 1 ∷ minus 1 ∷ []) ∷ (pos 1 ∷ pos 0 ∷ pos 0 ∷ minus 1 ∷ minus 1 ∷ []) ∷ [];
      rows =
          (pos 3 ∷ pos 0 ∷ pos 0 ∷ pos 0 ∷ pos 0 ∷ pos 0 ∷ pos iva ∷ [])
          ∷ (pos 3 ∷ pos 0 ∷ pos 0 ∷ pos 0 ∷ pos 0 ∷ pos 0 ∷ pos 0 ∷ [])
          ∷ (pos 5 ∷ pos 0 ∷ pos 0 ∷ pos 0 ∷ pos 0 ∷ pos 0 ∷ pos 0 ∷ [])
          ∷ [];
      factors = pos 20000 ∷ pos 0 ∷ pos 0 ∷ pos 30000 ∷ pos 4999 ∷ pos 0 ∷ [];
    }

-- lent room for 7 p, and for so many records
abbrev asking : (iva b ends rows : ℕ) → WhyLeft
asking iva b ends rows = why_left (small iva) b (replicate 7 9) (replicate ends []) (replicate rows [])

abbrev marking : (iva : ℕ) → (marks : List ℕ) → (b : ℕ) → WhyLeft
marking iva marks b = why_marked_left (small iva) marks b (replicate 7 9) (replicate 2 []) (replicate 3 [])

-- a refusal, with all that was lent as it was
abbrev turned : Refusal → (ends rows : ℕ) → WhyLeft
turned w ends rows = record { answer = Err w; p = replicate 7 9; ends = replicate ends []; rows = replicate rows [] }

pub anchors_lent : Hold (
    -- p of each row at each border; where each border started and ended; row 0 holds border 0, row 1 does not load it, row 2 takes no part. What the room holds beyond that stays
    asking 0 0 3 3 is (record {
      answer = Ok (told 1 1 (pos 0) (pos 0));
      p = 20000 ∷ 0 ∷ 0 ∷ 30000 ∷ 0 ∷ 0 ∷ 9 ∷ [];
      ends = (pos 0 ∷ pos 15 ∷ []) ∷ (pos 0 ∷ pos 10 ∷ []) ∷ [] ∷ [];
      rows = (pos 1 ∷ pos 0 ∷ pos 0 ∷ []) ∷ (pos 1 ∷ pos 0 ∷ minus 1 ∷ []) ∷ (pos 0 ∷ minus 1 ∷ minus 1 ∷ []) ∷ [];
    })  -- every-border
    -- border 1 alone marked (02, E13): border 0 stays, no row is named for it, and row 0 keeps its margin; the table of p is whole
    ∷ marking 0 (1 ∷ []) 0 is (record {
      answer = Ok (told 1 0 (minus 1) (minus 1));
      p = 20000 ∷ 0 ∷ 0 ∷ 30000 ∷ 0 ∷ 0 ∷ 9 ∷ [];
      ends = (pos 0 ∷ pos 0 ∷ []) ∷ (pos 0 ∷ pos 10 ∷ []) ∷ [];
      rows = (pos 0 ∷ pos 300000 ∷ minus 1 ∷ []) ∷ (pos 1 ∷ pos 0 ∷ minus 1 ∷ []) ∷ (pos 0 ∷ minus 1 ∷ minus 1 ∷ []) ∷ [];
    })  -- not-marked
    -- the table has no border 2: 14, with how many it has; after 13, and before 7
    ∷ asking 4 2 2 3 is turned (no_border 2) 2 3  -- no-border
    ∷ marking 4 (0 ∷ 0 ∷ []) 2 is turned (bad_mark 2) 2 3  -- thirteen
    -- 7, and last room for the records, borders before rows
    ∷ asking 4 1 1 1 is turned (below_zero 0) 1 1  -- seven
    ∷ asking 0 1 1 1 is turned (too_short 2) 1 1  -- short-ends
    ∷ asking 0 1 2 2 is turned (too_short 3) 2 2  -- short-rows
    ∷ [])
unfolding judge_marks faulty_mark marked_by if_zero sum count lesser least or_zero table first_from given max_ℤ min_ℤ positive_part same_ℤ inside sum_ℤ header_fits allocated_items zone_fits exists hubs_fit border_fits hubs_of border_of share_of row_of row_fits factor_fits worth default_of then either unless refuse_at refuse_first need stretch balanced twice room_for judge_shape sharers raise raises load lowered risen apply next raised counted run extract after raise_in last_to last_round stop_row grains f0core_of fuaf_of base_of amr_of signed_factor p_of lta_kw s_of lta_margin_of ram_of ram_at highest lowest spread_of shifted below state_of standings_of kept judge_for grid_by setup_with begin_by judge_by end_row end_record row_record reasons_of why_marked reasons_marked reasons_for judged_left why_for why_left why_marked_left
anchors_lent = refl
