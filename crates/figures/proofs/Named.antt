-- Theorems of the crates below, applied to the worked hour (01), each sentence of them at a number: the values named in 01 ("Margin of a row"), S and its corners (02, E1),
-- the row kept of two alike, and "-" replaced by the default (02, E6). It refuses a theorem that says less.
use Rattle.std.specs.Prelude.{Ok}
use mathlib.Core.Path.{◌≡◌, refl, sym, ap}
use mathlib.Core.Bool.{Bool, true, false, false≢true}
use mathlib.Core.List.{List, [], ◌∷◌}
use Prim.Native.Nat.{ℕ, zero, suc, ◌^◌, ◌<◌}
use native.Mathlib.Omega.{arith}
use lib.Dec.{eqb, lit<}
use lib.IntN.{ℤ, pos, nat_abs}
use lib.ListN.{drop}
use lib.Signed.{lt_z, ◌≤ℤ◌}
use Rattle.numbers.specs.Ints.{minus}
use Rattle.types.specs.Ranges.{at_ℤ}
use Rattle.tablerules.specs.Table.{Table, lent, factors_at}
use Rattle.tablerules.specs.Good.{Good}
use Rattle.tablerules.proofs.GoodLaws.{judged_good}
use Rattle.promises.specs.LargestCorner.{LargestCorner}
use Rattle.marginrules.specs.Margin.{corner_sum, ram_at, rams_of}
use Rattle.theorems.proofs.LargestCorner.{s_largest_corner}
use Rattle.marginrules.proofs.JudgedLaws.{good_factors}
use Rattle.marginrules.proofs.Small.{named_values_small}
use Rattle.cornerrules.specs.Corners.{flows_of, bit, Stands}
use Rattle.theorems.proofs.CornerSheet.{every_corner_stands}
use Rattle.theorems.proofs.OneKept.{OneKept, one_kept}
use Rattle.staterules.specs.Standings.{standings_of}
use Rattle.extractrules.specs.Extraction.{outcome_for}
use Rattle.promises.specs.Replaced.{replaced, ReplacedSame}
use Rattle.theorems.proofs.ReplacedSame.{replaced_same}
use Rattle.figures.specs.Computing.{computing}
use Rattle.figures.specs.Hour.{hour_table}
use Rattle.figures.proofs.Demand.{hour_end, hour_judged}

-- row 0's factors, and the hour's borders
abbrev f : List ℤ
f = factors_at hour_table 0

abbrev b : List (List ℤ)
b = hour_table.borders

-- border 1 alone at its LTA
abbrev second : (border : ℕ) → Bool
second border = eqb border 1

-- row 3, whose factors are row 0's less 10000 in each zone
abbrev Twin : Type 0
Twin = OneKept hour_table.header hour_table.factors (rams_of hour_table) 3

-- the hour with "-" for row 0's R
abbrev dashed : Table
dashed =
    lent hour_table.header hour_table.nets [] hour_table.borders
    ((pos 1000000 ∷ pos 200000 ∷ pos 200000 ∷ pos 150000 ∷ minus 1 ∷ pos 0 ∷ pos 80000 ∷ []) ∷ drop 1 hour_table.rows) hour_table.factors

pub record HourNamed : Type 0 where
  -- row 0's values, in grains
  pub f0core : 7000000000 < 2 ^ 48
  pub fuaf : 8000000000 < 2 ^ 48
  pub base : 73000000000 < 2 ^ 48
  pub amr : 5000000000 < 2 ^ 48
  pub p : 20000 < 2 ^ 48
  pub s : 4000000000 < 2 ^ 48
  pub lta_margin : 0 < 2 ^ 48
  pub ram : 70000000000 < 2 ^ 48
  pub less_s : 66000000000 < 2 ^ 48
  pub remainder : 70000000000 < 2 ^ 49
  pub start : 66000000000 < 2 ^ 49
  -- the corner of border 0 alone has less than S, and only the corner of both borders has S
  pub one_border : pos 2000000000 ≤ℤ pos 4000000000
  pub largest : (l : LargestCorner f b) → l.corner ≡ 3
  -- border 1 alone stands at number 2 and at no other, and has 2,000,000,000 grains
  pub stands : (c : Stands f b second) → c.corner ≡ 2
  pub nowhere_else : (c : Stands f b second) → 2 ≡ c.corner
  pub stands_flow : (c : Stands f b second) → at_ℤ (flows_of f b) c.corner ≡ pos 2000000000
  pub every_stands : Stands f b second
  -- of rows 0 and 3, which are parallel, row 0 is kept and not row 3; its RAM is the lower
  pub twin : Twin
  pub kept : (k : Twin) → k.kept ≡ 0
  pub no_other : (k : Twin) → 0 ≡ k.kept
  pub lower : (k : Twin) → at_ℤ (rams_of hour_table) k.kept ≤ℤ pos 100000000000
  -- the hour with "-" for R 7000, once replaced, is the hour in each respect
  pub hour : replaced dashed ≡ hour_table
  pub same : ReplacedSame dashed
  pub written : lt_z (pos 7000) (pos 0) ≡ false
  pub good : Good dashed → Good hour_table
  pub ram_dashed : pos 70000000000 ≡ ram_at dashed 0
  pub rams_dashed : pos 70000000000 ∷ pos 9000000000 ∷ pos 12499500000 ∷ pos 100000000000 ∷ [] ≡ rams_of dashed
  pub rows_dashed : hour_end.rows ≡ standings_of dashed
  pub outcome_dashed : Ok hour_end ≡ outcome_for true [] dashed
  pub outcome_marked_lem : outcome_for false (1 ∷ []) hour_table ≡ outcome_for false (1 ∷ []) dashed

hour_good : Good hour_table
hour_good = judged_good hour_table hour_table hour_judged

all_borders : (k : ℕ) → k < 4 → corner_sum f b k ≡ pos 4000000000 → k ≡ 3
unfolding computing
all_borders zero h e = let z : ◌≡◌ {A = ℕ} 0 4000000000 = ap nat_abs e in absurd (omega arith)
all_borders (suc zero) h e = let z : ◌≡◌ {A = ℕ} 2000000000 4000000000 = ap nat_abs e in absurd (omega arith)
all_borders (suc (suc zero)) h e = let z : ◌≡◌ {A = ℕ} 2000000000 4000000000 = ap nat_abs e in absurd (omega arith)
all_borders (suc (suc (suc zero))) h e = refl
all_borders (suc (suc (suc (suc k)))) h e = absurd (omega arith)

second_corner : (k : ℕ) → k < 4 → bit k 0 ≡ false → bit k 1 ≡ true → k ≡ 2
second_corner zero h x y = absurd (false≢true y)
second_corner (suc zero) h x y = absurd (false≢true y)
second_corner (suc (suc zero)) h x y = refl
second_corner (suc (suc (suc zero))) h x y = absurd (false≢true (sym x))
second_corner (suc (suc (suc (suc k)))) h x y = absurd (omega arith)

second_bits : (k : ℕ) → k < 2 → bit 2 k ≡ second k
second_bits zero h = refl
second_bits (suc zero) h = refl
second_bits (suc (suc k)) h = absurd (omega arith)

twin_kept : (i : ℕ) (k : Twin) → k.kept ≡ i → k.kept ≡ 0
unfolding computing
twin_kept zero k e = e
twin_kept (suc zero) k e = absurd (false≢true (rw e at k.alike))
twin_kept (suc (suc zero)) k e = let z : ◌≡◌ {A = ℕ} 1 0 = rw e at k.is_kept in absurd (omega arith)
twin_kept (suc (suc (suc zero))) k e = let z : ◌≡◌ {A = ℕ} 2 0 = rw e at k.is_kept in absurd (omega arith)
twin_kept (suc (suc (suc (suc i)))) k e = let h : k.kept < 4 = k.in_range_lem in absurd (omega arith)

pub hour_named : HourNamed
unfolding computing
hour_named =
    let v = named_values_small hour_good 0 (lit< tt) in
    let same = replaced_same dashed in
    record {
      f0core = v.f0core;
      fuaf = v.fuaf;
      base = v.base;
      amr = v.amr;
      p = v.p 0 (lit< tt);
      s = v.s;
      lta_margin = v.lta_margin;
      ram = v.ram;
      less_s = v.less_s;
      remainder = v.remainder;
      start = v.start;
      one_border = (s_largest_corner f b).all 1;
      largest = λ l. all_borders l.corner l.below l.is;
      stands = λ c. second_corner c.corner c.below (c.bits 0 (lit< tt)) (c.bits 1 (lit< tt));
      nowhere_else = λ c. c.once 2 (lit< tt) second_bits;
      stands_flow = λ c. c.flow;
      every_stands = every_corner_stands f b second;
      twin = one_kept (good_factors hour_good) (rams_of hour_table) 3 (lit< tt) (λ e. let z : ◌≡◌ {A = ℕ} 2 1 = e in omega arith);
      kept = λ k. twin_kept k.kept k refl;
      no_other = λ k. k.only 0 (lit< tt) refl refl;
      lower = λ k. k.lowest 3 (lit< tt) refl;
      hour = refl;
      same = same;
      written = same.written 0;
      good = same.good;
      ram_dashed = same.ram 0;
      rams_dashed = same.rams;
      rows_dashed = same.rows;
      outcome_dashed = same.outcome true [];
      outcome_marked_lem = same.outcome false (1 ∷ []);
    }
