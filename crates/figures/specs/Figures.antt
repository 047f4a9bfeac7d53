-- The figures that 01 marks [p] ("Edge figures"), as one list, each under the paper's words; of every table that has them, where they can be.
-- That they hold is one theorem, `figures` of `proofs/Figures.antt`.
use Rattle.std.specs.Prelude.{◌≡◌, List, [], ◌∷◌, ℕ, ◌*◌, ◌≤◌, ◌<◌, ℤ, pos, get_or, Ok}
use Rattle.numbers.specs.Below.{at, table}
use Rattle.numbers.specs.Ints.{minus}
use Rattle.types.specs.declared.Row.{Row}
use Rattle.types.specs.declared.Share.TheVariants.{Written}
use Rattle.rounds.specs.Rounds.{Grid, sharers, raise}
use Rattle.tablerules.specs.Table.{Table, factors_at}
use Rattle.marginrules.specs.Margin.{grains, base_of, amr_of, ram_at, rams_of}
use Rattle.staterules.specs.States.{spread_of, state_of}
use Rattle.staterules.specs.Standings.{standings_of}
use Rattle.extractrules.specs.Extraction.{Result, outcome_of}
use Rattle.answer.specs.Result.{answer_text}
use Rattle.text.specs.Shown.{shown}
use Rattle.figures.specs.Borders.{plain_border}
use Rattle.figures.specs.Small.{small_table}

-- F0all 0; what AMR and Base do not look at (Fref other than by F0core, CVA, IVA) is whatever it is
abbrev pub row_of : (fmax frm r : ℕ) → (fref cva iva : ℤ) → Row
row_of fmax frm r fref cva iva = record { fmax = pos fmax; frm = pos frm; fref = fref; f0all = pos 0; share = Written (pos r); cva = cva; iva = iva }

-- two rows that are equal, of spread 5000, and one border
abbrev pub two_equal : Table
two_equal =
    record {
      header = record { zones = 2; borders = 1; rows = 2; share = minus 1; intraday = 0 };
      nets = pos 0 ∷ pos 0 ∷ [];
      allocated = [];
      borders = plain_border 0 1 0 ∷ [];
      rows = table 2 (λ i. pos 100000 ∷ pos 0 ∷ pos 0 ∷ pos 0 ∷ pos 0 ∷ pos 0 ∷ pos 0 ∷ []);
      factors = pos 5000 ∷ pos 0 ∷ pos 5000 ∷ pos 0 ∷ [];
    }

pub record Figures : Type 0 where
  -- Spread 5000: kept (a row alone; and no row of that spread has state 1); 4999: state 1
  pub spread_5000 : (t : Table) → t.header.rows ≡ 1 → spread_of (factors_at t 0) ≡ pos 5000 → state_of t.header t.factors (rams_of t) 0 ≡ 0
  pub spread_5000_any : (t : Table) (i : ℕ) → spread_of (factors_at t i) ≡ pos 5000 → state_of t.header t.factors (rams_of t) i ≡ 1 → ⊥
  pub spread_4999 : (t : Table) (i : ℕ) → spread_of (factors_at t i) ≡ pos 4999 → state_of t.header t.factors (rams_of t) i ≡ 1
  -- Fmax 100000, R 7000, F0core and F0all 0, S 0 (which AMR does not look at): FRM 30000 gives AMR 0; FRM 30001 gives 1 kW
  pub frm_30000 : (default fref cva iva : ℤ) → amr_of default (row_of 100000 30000 7000 fref cva iva) (pos 0) ≡ pos 0
  pub frm_30001 : (default fref cva iva : ℤ) → amr_of default (row_of 100000 30001 7000 fref cva iva) (pos 0) ≡ grains (pos 1)
  -- Fmax 100000, FRM 90000, R 0, F0core and F0all 0: Base 10000, AMR 10000 kW
  pub base_10000 : (fref cva iva : ℤ) → base_of (row_of 100000 90000 0 fref cva iva) (pos 0) ≡ grains (pos 10000)
  pub amr_10000 : (default fref cva iva : ℤ) → amr_of default (row_of 100000 90000 0 fref cva iva) (pos 0) ≡ grains (pos 10000)
  -- Fmax 10000, other row values and net positions 0, one border with p 20000 and LTA 100: RAM 20000 kW, rounds 0, ATC 100. IVA 1 on it: refusal 7, row 0
  pub ram_20000 : ram_at (small_table (plain_border 0 1 100) (pos 10000 ∷ pos 0 ∷ pos 0 ∷ pos 0 ∷ pos 0 ∷ pos 0 ∷ pos 0 ∷ [])) 0 ≡ grains (pos 20000)
  pub at_lta : answer_text (shown "H 2 1 1/Z 0 0/Z 1 0/B 0 0 1 100/C 0 10000 0 0 0 0 0 0 20000 0/") ≡ shown "A 0 100 0 0/M 0 0 2000000000 0/R 0/"
  pub iva_1 : answer_text (shown "H 2 1 1/Z 0 0/Z 1 0/B 0 0 1 100/C 0 10000 0 0 0 0 0 1 20000 0/") ≡ shown "E 7 0 0/"
  -- One border, one kept row (any number of rows, indeed): rounds 0 (as just above) or 1
  pub one_border : (t : Table) (r : Result) → outcome_of t ≡ Ok r → t.header.borders ≡ 1 → r.outcome.rounds ≤ 1
  pub one_round : answer_text (shown "H 2 1 1/Z 0 0/Z 1 0/B 0 0 1 100/C 0 100000 0 0 0 0 0 0 20000 0/") ≡ shown "A 0 500 1 0/M 0 0 10000000000 0/R 1/"
  -- Two equal rows of spread 5000: the second is state 2 (of any table; and of two such rows alone the first is kept)
  pub second_equal : (t : Table) (i j : ℕ) → i < j → j < t.header.rows → get_or t.rows i [] ≡ get_or t.rows j [] → factors_at t i ≡ factors_at t j
      → spread_of (factors_at t j) ≡ pos 5000 → state_of t.header t.factors (rams_of t) j ≡ 2
  pub two_equal_lem : (standings_of two_equal).states ≡ 0 ∷ 2 ∷ []
  -- Margin 3 p, n 2: raise 1 kW
  pub half_again : (g : Grid) (margins : List ℕ) (b p : ℕ) → g.rows ≡ 1 → sharers g 0 ≡ 2 → g.p 0 b ≡ p → 0 < p → at margins 0 ≡ 3 * p → raise g margins b ≡ 1
  -- Border 0 to 1 given twice: 4, place 1. With 1 to 0 as the second: not 4
  pub given_twice_lem : answer_text (shown "H 2 2 2/Z 0 0/Z 1 0/B 0 0 1 100/B 1 0 1 200/C 0 100000 0 0 0 0 0 0 20000 0/C 1 100000 0 0 0 0 0 0 0 20000/") ≡ shown "E 4 1 0/"
  pub turned_round : answer_text (shown "H 2 2 2/Z 0 0/Z 1 0/B 0 0 1 100/B 1 1 0 200/C 0 100000 0 0 0 0 0 0 20000 0/C 1 100000 0 0 0 0 0 0 0 20000/")
      ≡ shown "A 0 500 1 0/A 1 500 1 1/M 0 0 10000000000 0/M 1 0 10000000000 0/R 1/"
