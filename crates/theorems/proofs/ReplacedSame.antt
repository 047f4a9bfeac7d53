-- Replacing every "-" by the default in force changes no margin (promises: specs/Replaced): a "-" is worth what it is replaced by, and R enters RAM by its worth
-- alone. No contract cites this file.
use Rattle.std.specs.Prelude.{Ok}
use mathlib.Core.Path.{◌≡◌, refl, sym, ap, ap₂, ◌∙◌}
use mathlib.Core.Bool.{Bool, true, false, cond}
use mathlib.Core.List.{List, [], ◌∷◌}
use Prim.Native.Nat.{ℕ, zero, suc, ◌<◌}
use native.Mathlib.Omega.{arith}
use lib.IntN.{ℤ, pos}
use lib.ListN.{length, get_or}
use lib.Signed.{lt_z}
use Rattle.numbers.specs.Ints.{minus, inside}
use Rattle.numbers.proofs.BelowLaws.{table_cong}
use Rattle.refusals.specs.Refusals.{then}
use Rattle.types.specs.declared.Share.TheVariants.{Standard, Written}
use Rattle.types.specs.LineLimits.{share_most}
use Rattle.types.specs.Ranges.{is_intraday, at_ℤ, share_of, row_of, row_fits, worth, default_of}
use Rattle.types.proofs.RangeLaws.{row_in, default_low, default_fits}
use Rattle.marks.specs.Marks.{judge_asked, may_rise}
use Rattle.tablerules.specs.Table.{Table, factors_at}
use Rattle.tablerules.specs.Good.{Good}
use Rattle.marginrules.specs.Margin.{f0core_of, fuaf_of, base_of, amr_of, lta_margin_of, ram_of, s_at, ram_at, start_by, margin_of, rams_of, starts_of}
use Rattle.staterules.specs.States.{states_of, kept}
use Rattle.staterules.specs.Standings.{Standings, standings_of}
use Rattle.setup.specs.Setup.{Setup, grid_by, begin_by, judge_by}
use Rattle.extractrules.specs.Start.{every, setup_with}
use Rattle.extractrules.specs.Filled.{cells}
use Rattle.extractrules.specs.Extraction.{result_by, result_marked, outcome_marked, outcome_for}
use Rattle.promises.specs.Replaced.{replaced_share, replaced_row, replaced_rows, replaced, ReplacedSame}

-- ---- one row
module _ (default : ℤ) (low : lt_z default (pos 0) ≡ false) where
  share_written : (r : ℤ) → lt_z (replaced_share default r) (pos 0) ≡ false
  share_written r = go (lt_z r (pos 0)) refl
    where
      go : (t : Bool) → lt_z r (pos 0) ≡ t → lt_z (cond t default r) (pos 0) ≡ false
      go true e = low
      go false e = e

  share-worth : (r : ℤ) → worth default (share_of (replaced_share default r)) ≡ worth default (share_of r)
  unfolding worth share_of
  share-worth r = go (lt_z r (pos 0)) refl
    where
      go : (t : Bool) → lt_z r (pos 0) ≡ t → worth default (cond (lt_z (cond t default r) (pos 0)) Standard (Written (cond t default r))) ≡ worth default (cond t Standard (Written r))
      go true e = rw low
      go false e = rw e

  -- R enters RAM by its worth alone
  row-ram : (raw factors nets : List ℤ) (s : ℕ)
      → ram_of default (row_of (replaced_row default raw)) (f0core_of (row_of (replaced_row default raw)) factors nets) s ≡ ram_of default (row_of raw) (f0core_of (row_of raw) factors nets) s
  unfolding row_of f0core_of fuaf_of base_of amr_of lta_margin_of ram_of
  row-ram raw factors nets s = rw (share-worth (at_ℤ raw 4))

  row_fits_lem : inside (minus 1) (pos share_most) default ≡ true → (raw : List ℤ) → row_fits raw ≡ true → row_fits (replaced_row default raw) ≡ true
  unfolding row_fits row_of
  row_fits_lem d raw e = rw (go (lt_z (at_ℤ raw 4) (pos 0)) ∙ sym (row_in raw e).share) e
    where
      go : (t : Bool) → inside (minus 1) (pos share_most) (cond t default (at_ℤ raw 4)) ≡ true
      go true = d
      go false = (row_in raw e).share

  -- ---- each row of a list
  rows_long : (rows : List (List ℤ)) → length (replaced_rows default rows) ≡ length rows
  rows_long [] = refl
  rows_long (raw ∷ rows) = ap suc (rows_long rows)

  rows_written : (rows : List (List ℤ)) (i : ℕ) → lt_z (at_ℤ (get_or (replaced_rows default rows) i []) 4) (pos 0) ≡ false
  rows_written [] i = refl
  rows_written (raw ∷ rows) zero = share_written (at_ℤ raw 4)
  rows_written (raw ∷ rows) (suc i) = rows_written rows i

  rows-ram : (rows : List (List ℤ)) (i : ℕ) (factors nets : List ℤ) (s : ℕ)
      → ram_of default (row_of (get_or (replaced_rows default rows) i [])) (f0core_of (row_of (get_or (replaced_rows default rows) i [])) factors nets) s
      ≡ ram_of default (row_of (get_or rows i [])) (f0core_of (row_of (get_or rows i [])) factors nets) s
  rows-ram [] i factors nets s = refl
  rows-ram (raw ∷ rows) zero factors nets s = row-ram raw factors nets s
  rows-ram (raw ∷ rows) (suc i) factors nets s = rows-ram rows i factors nets s

  rows_fit : inside (minus 1) (pos share_most) default ≡ true → (rows : List (List ℤ)) (i : ℕ) → i < length rows → row_fits (get_or rows i []) ≡ true → row_fits (get_or (replaced_rows default rows) i []) ≡ true
  rows_fit d [] i h e = e
  rows_fit d (raw ∷ rows) zero h e = row_fits_lem d raw e
  rows_fit d (raw ∷ rows) (suc i) h e = rows_fit d rows i (omega arith) e

-- ---- the table
module _ (t : Table) where
  abbrev low : lt_z (default_of t.header) (pos 0) ≡ false
  low = default_low t.header

  same-ram : (i : ℕ) → ram_at (replaced t) i ≡ ram_at t i
  unfolding ram_at
  same-ram i = rows-ram (default_of t.header) low t.rows i (factors_at t i) t.nets (s_at t.header t.borders t.factors i)

  same-rams : rams_of (replaced t) ≡ rams_of t
  same-rams = table_cong t.header.rows (ram_at (replaced t)) (ram_at t) (λ i h. same-ram i)

  same-starts : starts_of (replaced t) ≡ starts_of t
  same-starts = table_cong t.header.rows (margin_of (replaced t)) (margin_of t) (λ i h.
      ap (λ (ram : ℤ). start_by (is_intraday t.header) ram (s_at t.header t.borders t.factors i) (factors_at t i) t.allocated) (same-ram i))

  same_rows : standings_of (replaced t) ≡ standings_of t
  unfolding standings_of
  same_rows = ap (λ (rams : List ℤ). record { rams = rams; states = states_of t.header t.factors rams }) same-rams

  same_outcome : (all : Bool) (marks : List ℕ) → outcome_for all marks (replaced t) ≡ outcome_for all marks t
  unfolding outcome_for outcome_marked result_marked
  same_outcome all marks =
      ap₂ (λ (rows : Standings) (starts : List ℤ).
      let setup : (ℕ → Bool) → Setup = λ marked. setup_with (kept rows.states) marked t.header t.borders t.factors starts in
      let marked = may_rise all marks in
      judge_asked all t.header.borders marks
      (then (judge_by (setup marked) rows.states) (λ states. Ok (result_by t.header rows (cells (grid_by (setup every))) (grid_by (setup marked)) (begin_by (setup every))))))
      same_rows same-starts

  stays-good : Good t → Good (replaced t)
  stays-good g =
      record {
        exact = record {
          header = g.exact.header;
          nets_long = g.exact.nets_long;
          allocated_long = g.exact.allocated_long;
          borders_long = g.exact.borders_long;
          rows_long = rows_long (default_of t.header) low t.rows ∙ g.exact.rows_long;
          factors_long = g.exact.factors_long;
        };
        nets_fit = g.nets_fit;
        allocated_fit = g.allocated_fit;
        in_balance = g.in_balance;
        borders_fit = g.borders_fit;
        rows_fit = λ i h. rows_fit (default_of t.header) low (default_fits t.header g.exact.header) t.rows i (omega (arith, g.exact.rows_long)) (g.rows_fit i h);
        factors_fit = g.factors_fit;
        once = g.once;
      }

  pub replaced_same : ReplacedSame t
  replaced_same =
      record {
        written = rows_written (default_of t.header) low t.rows;
        good = stays-good;
        ram = same-ram;
        rams = same-rams;
        rows = same_rows;
        outcome = same_outcome;
      }
