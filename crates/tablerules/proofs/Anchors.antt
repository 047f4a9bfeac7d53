-- A small lent table, judged. Nobody cites it: it refuses a definition that slipped.
use Rattle.std.specs.Prelude.{Err}
use mathlib.Core.Path.{◌≡◌, refl}
use mathlib.Core.Bool.{Bool, true, false}
use mathlib.Core.List.{List, [], ◌∷◌}
use Prim.Native.Nat.{ℕ, zero, suc, ◌<◌}
use native.Mathlib.Omega.{arith}
use lib.IntN.{ℤ, pos}
use Rattle.numbers.specs.Below.{first_from, given}
use Rattle.numbers.specs.Ints.{minus, same_ℤ, sum_ℤ, inside}
use Rattle.numbers.specs.Computed.{◌is◌, Hold}
use Rattle.refusals.specs.Refusals.{then, unless, refuse_at, refuse_first, need, out_of_range, too_short}
use Rattle.types.specs.Ranges.{header_fits, allocated_items, zone_fits, exists, hubs_fit, border_fits, share_of, row_of, row_fits, factor_fits}
use Rattle.tablerules.specs.Table.{Table, stretch, balanced, same_ends, twice, room_for, judge_shape, judge_for, judge_lent}
use Rattle.tablerules.specs.Good.{Good}

-- row 1 has FRM above Fmax: H is line 1, Z lines 2 and 3, B line 4, C lines 5 and 6
abbrev frm_above : Table
frm_above =
    record {
      header = record { zones = 2; borders = 1; rows = 2; share = minus 1; intraday = 0 };
      nets = pos 0 ∷ pos 0 ∷ [];
      allocated = [];
      borders = (pos 0 ∷ pos 1 ∷ pos 0 ∷ minus 1 ∷ minus 1 ∷ []) ∷ [];
      rows = (pos 5 ∷ pos 5 ∷ pos 0 ∷ pos 0 ∷ pos 0 ∷ pos 0 ∷ pos 0 ∷ []) ∷ (pos 5 ∷ pos 6 ∷ pos 0 ∷ pos 0 ∷ pos 0 ∷ pos 0 ∷ pos 0 ∷ []) ∷ [];
      factors = pos 0 ∷ pos 0 ∷ pos 0 ∷ pos 0 ∷ [];
    }

-- the table with T records (02, E12): they have lines 4 and 5, and the C lines come two lines later
abbrev with_t : (mark : ℕ) → (allocated : List ℤ) → Table
with_t mark allocated =
    record {
      header = record { zones = 2; borders = 1; rows = 2; share = minus 1; intraday = mark };
      nets = frm_above.nets;
      allocated = allocated;
      borders = frm_above.borders;
      rows = frm_above.rows;
      factors = frm_above.factors;
    }

pub allocated : Hold (
    judge_lent frm_above is Err (out_of_range 6)  -- row-line
    ∷ judge_lent (with_t 1 (pos 5 ∷ minus 5 ∷ [])) is Err (out_of_range 8)  -- later
    -- T positions that do not sum to zero: the last T line; one out of range: its own line, and first
    ∷ judge_lent (with_t 1 (pos 5 ∷ minus 4 ∷ [])) is Err (out_of_range 5)  -- sum
    ∷ judge_lent (with_t 1 (pos 100000001 ∷ minus 4 ∷ [])) is Err (out_of_range 4)  -- range
    -- too few T records, which is 8; where the header says that there are none, lent T records are not looked at
    ∷ judge_lent (with_t 1 (pos 0 ∷ [])) is Err (too_short 2)  -- few
    ∷ judge_lent (with_t 0 (pos 1 ∷ [])) is Err (out_of_range 6)  -- without
    -- no text gives another mark than 0 and 1
    ∷ judge_lent (with_t 2 (pos 0 ∷ pos 0 ∷ [])) is Err (out_of_range 1)  -- mark
    ∷ [])
unfolding first_from given same_ℤ sum_ℤ inside header_fits allocated_items zone_fits exists hubs_fit border_fits share_of row_of row_fits factor_fits then unless refuse_at refuse_first need stretch balanced room_for judge_shape judge_for
allocated = refl

-- border 0 to 1, by hubs 2 and 3: given again, by the same hubs in the other order, and without hubs
pub ends : Hold (
    same_ends (pos 0 ∷ pos 1 ∷ pos 5 ∷ pos 2 ∷ pos 3 ∷ []) (pos 0 ∷ pos 1 ∷ pos 6 ∷ pos 2 ∷ pos 3 ∷ []) is true  -- again
    ∷ same_ends (pos 0 ∷ pos 1 ∷ pos 5 ∷ pos 2 ∷ pos 3 ∷ []) (pos 0 ∷ pos 1 ∷ pos 5 ∷ pos 3 ∷ pos 2 ∷ []) is false  -- turned
    ∷ same_ends (pos 0 ∷ pos 1 ∷ pos 5 ∷ pos 2 ∷ pos 3 ∷ []) (pos 0 ∷ pos 1 ∷ pos 5 ∷ minus 1 ∷ minus 1 ∷ []) is false  -- without
    ∷ [])
unfolding same_ℤ
ends = refl

-- Good tables with a value at both ends of every range, with hubs and without, with "-" and without: what a narrower `Good` would leave out
abbrev widest : (mark : ℕ) → (share : ℤ) → (allocated : List ℤ) → Table
widest mark share allocated =
    record {
      header = record { zones = 4; borders = 2; rows = 2; share = share; intraday = mark };
      nets = pos 100000000 ∷ minus 100000000 ∷ pos 100000000 ∷ pos 0 ∷ [];
      allocated = allocated;
      borders = (pos 0 ∷ pos 3 ∷ pos 10000 ∷ pos 1 ∷ pos 2 ∷ []) ∷ (pos 3 ∷ pos 0 ∷ pos 0 ∷ minus 1 ∷ minus 1 ∷ []) ∷ [];
      rows =
          (pos 10000000 ∷ pos 10000000 ∷ pos 20000000 ∷ pos 20000000 ∷ pos 10000 ∷ pos 10000000 ∷ pos 10000000 ∷ [])
          ∷ (pos 1 ∷ pos 0 ∷ minus 20000000 ∷ minus 20000000 ∷ minus 1 ∷ pos 0 ∷ pos 0 ∷ [])
          ∷ [];
      factors = pos 100000 ∷ minus 100000 ∷ pos 0 ∷ pos 1 ∷ minus 100000 ∷ minus 100000 ∷ minus 100000 ∷ minus 100000 ∷ [];
    }

two : (f : ℕ → Bool) (v : Bool) → f 0 ≡ v → f 1 ≡ v → (i : ℕ) → i < 2 → f i ≡ v
two f v a b zero h = a
two f v a b (suc zero) h = b
two f v a b (suc (suc i)) h = absurd (omega arith)

four : (f : ℕ → Bool) (v : Bool) → f 0 ≡ v → f 1 ≡ v → f 2 ≡ v → f 3 ≡ v → (i : ℕ) → i < 4 → f i ≡ v
four f v a b c d zero h = a
four f v a b c d (suc zero) h = b
four f v a b c d (suc (suc i)) h = two (λ j. f (suc (suc j))) v c d i (omega arith)

eight : (f : ℕ → Bool) (v : Bool) → f 0 ≡ v → f 1 ≡ v → f 2 ≡ v → f 3 ≡ v → f 4 ≡ v → f 5 ≡ v → f 6 ≡ v → f 7 ≡ v → (i : ℕ) → i < 8 → f i ≡ v
eight f v a b c d e g k l (suc (suc (suc (suc i)))) h = four (λ j. f (suc (suc (suc (suc j))))) v e g k l i (omega arith)
eight f v a b c d e g k l zero h = a
eight f v a b c d e g k l (suc zero) h = b
eight f v a b c d e g k l (suc (suc zero)) h = c
eight f v a b c d e g k l (suc (suc (suc zero))) h = d

pub record Goods : Type 0 where
  pub day : Good (widest 0 (minus 1) [])
  pub late : Good (widest 1 (pos 10000) (pos 100000000 ∷ minus 100000000 ∷ pos 0 ∷ pos 0 ∷ []))
  pub most : header_fits (record { zones = 16; borders = 64; rows = 200; share = pos 10000; intraday = 1 }) ≡ true
  pub least : header_fits (record { zones = 2; borders = 1; rows = 1; share = pos 0; intraday = 0 }) ≡ true

pub goods : Goods
unfolding first_from given same_ℤ sum_ℤ inside header_fits allocated_items zone_fits exists hubs_fit border_fits share_of row_of row_fits factor_fits balanced twice
goods =
    record {
      day =
          record {
            exact = record { header = refl; nets_long = refl; allocated_long = refl; borders_long = refl; rows_long = refl; factors_long = refl };
            nets_fit = four _ true refl refl refl refl;
            allocated_fit = λ i h. absurd (omega arith);
            in_balance = refl;
            borders_fit = two _ true refl refl;
            rows_fit = two _ true refl refl;
            factors_fit = eight _ true refl refl refl refl refl refl refl refl;
            once = two _ false refl refl;
          };
      late =
          record {
            exact = record { header = refl; nets_long = refl; allocated_long = refl; borders_long = refl; rows_long = refl; factors_long = refl };
            nets_fit = four _ true refl refl refl refl;
            allocated_fit = four _ true refl refl refl refl;
            in_balance = refl;
            borders_fit = two _ true refl refl;
            rows_fit = two _ true refl refl;
            factors_fit = eight _ true refl refl refl refl refl refl refl refl;
            once = two _ false refl refl;
          };
      most = refl;
      least = refl;
    }
