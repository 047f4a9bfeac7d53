-- The laws of `specs/Start.antt` and `specs/Filled.antt`: a grid in one list, which of 5, 6 and 7 decides, and that what the code fills in is what the definitions say.
-- No contract cites this file.
use Rattle.std.specs.Prelude.{Err, None, Ok, Some}
use mathlib.Core.Path.{◌≡◌, sym, ap, ap₂, subst, ◌∙◌}
use mathlib.Core.Bool.{Bool, true, false, cond, not, ◌&&◌}
use mathlib.Core.List.{List, [], ◌++◌}
use mathlib.Core.Logic.{⊎_elim}
use Prim.Native.Nat.{ℕ, zero, suc, ◌+◌, ◌*◌, ◌/◌, ◌%◌, ◌≤◌, ◌<◌}
use native.Mathlib.Nat.{le_refl, not-suc-le-zero, zero-mul, mul-zero, div-lt_iff_lt-mul, mod-lt, add-zero, suc-mul, div-eq_of_lt, mod-eq_of_lt, mul-add-div_right, mul-add-mod_self_right}
use native.Mathlib.Numerals.{add-one}
use native.Mathlib.Omega.{arith}
use lib.IntN.{ℤ, pos}
use lib.ListN.{length, get_or, set, drop, length-set}
use lib.Seq.{get_or-set_same, get_or-set_other}
use lib.Signed.{lt_z}
use Rattle.numbers.specs.Ints.{positive_part}
use Rattle.numbers.specs.Below.{at, table, first_from, some_below}
use Rattle.numbers.proofs.BelowLaws.{lt_suc_cases, table_long, table_get, table_cong, table_of}
use Rattle.limits.specs.Limits.{borders_most}
use Rattle.refusals.specs.Answers.{said_judgement}
use Rattle.refusals.specs.Refusals.{Judged, refuse_first, no_row, unlimited, below_zero, Ruling}
use Rattle.refusals.proofs.RefusalLaws.{unless_ok, unless_refused, first_found, first_none_next}
use Rattle.types.specs.declared.Header.{Header}
use Rattle.types.specs.Ranges.{at_ℤ, is_intraday, border_of}
use Rattle.tablerules.specs.Table.{Table}
use Rattle.rounds.specs.Rounds.{Grid}
use Rattle.rounds.proofs.Loops.{place_inside}
use Rattle.marginrules.specs.Margin.{starts_of}
use Rattle.staterules.specs.Standings.{Standings, standings_of, standings_with}
use Rattle.setup.specs.Setup.{grid_by, begin_by, judge_by}
use Rattle.staterules.specs.States.{kept}
use Rattle.extractrules.specs.Start.{from_by, grid_of, start_of, judge_start, grid_marked, table_start, judge_marked, setup_with}
use Rattle.extractrules.specs.Filled.{froms, exchanges_of, free_of, cells, Prepared, prepared, prepared_of}

-- ---- a grid in one list
-- what stands at row i and border b in a list of cells
pub cell_is : (g : Grid) (i b : ℕ) → b < g.borders → g.p ((i * g.borders + b) / g.borders) ((i * g.borders + b) % g.borders) ≡ g.p i b
cell_is g i b hb =
    let z : 0 < g.borders = omega arith in
    ap₂ g.p
    (mul-add-div_right z i b ∙ ap (λ (q : ℕ). i + q) (div-eq_of_lt hb) ∙ add-zero i)
    (mul-add-mod_self_right i g.borders b ∙ mod-eq_of_lt hb)

pub cells_at : (g : Grid) (i b : ℕ) → i < g.rows → b < g.borders → at (cells g) (i * g.borders + b) ≡ g.p i b
cells_at g i b hi hb = table_get (g.rows * g.borders) _ _ 0 (place_inside _ _ i b _ (le_refl _) hi hb) ∙ cell_is g i b hb

-- grids that agree on every row and border
pub cells_cong : (rows borders : ℕ) (p p' : ℕ → ℕ → ℕ) → ((i b : ℕ) → i < rows → b < borders → p i b ≡ p' i b) → cells (record { rows = rows; borders = borders; p = p }) ≡ cells (record { rows = rows; borders = borders; p = p' })
cells_cong rows borders p p' same = table_cong (rows * borders) _ _ (λ k h. let z : 0 < borders = some-border borders h in same (k / borders) (k % borders) ((div-lt_iff_lt-mul z).1 h) (mod-lt k z))
  where
    some-border : (n : ℕ) {k : ℕ} → k < rows * n → 0 < n
    some-border zero h = absurd (not-suc-le-zero (rw (mul-zero rows) at h))
    some-border (suc n) h = omega arith

-- ---- filling the cells, row after row: those before row i and border b are the grid's
pub record FilledTo (g : Grid) (p : List ℕ) (i b : ℕ) : Type 0 where
  pub row : i ≤ g.rows
  pub border : b ≤ g.borders
  pub long : length p ≡ g.rows * g.borders
  pub filled : (j : ℕ) → j < i * g.borders + b → at p j ≡ g.p (j / g.borders) (j % g.borders)

pub filled_to_none : (g : Grid) (p : List ℕ) → length p ≡ g.rows * g.borders → FilledTo g p 0 0
filled_to_none g p l =
    record { row = omega arith; border = omega arith; long = l; filled = λ j h. let n : ⊥ = omega (arith, zero-mul g.borders) in absurd n }

module _ {g : Grid} {p : List ℕ} {i b : ℕ} (u : FilledTo g p i b) (hi : i < g.rows) where
  pub filled_to_place : b < g.borders → i * g.borders + b < length p
  filled_to_place hb = place_inside _ _ i b _ (omega (arith, u.long)) hi hb

  pub filled_to_more : b < g.borders → (v : ℕ) → v ≡ g.p i b → FilledTo g (set p (i * g.borders + b) v) i (b + 1)
  filled_to_more hb v e =
      let k : ℕ = i * g.borders + b in
      record {
        row = u.row;
        border = omega arith;
        long = simp length-set u.long;
        filled = λ j h.
            ⊎_elim
            (λ a. get_or-set_other p k j v 0 (λ y. omega arith) ∙ u.filled j a)
            (λ y.
            ap (at (set p k v)) y ∙ get_or-set_same p k v 0 (filled_to_place hb) ∙ e ∙ sym (cell_is g i b hb)
            ∙ ap (λ (x : ℕ). g.p (x / g.borders) (x % g.borders)) (sym y))
            (lt_suc_cases j k (omega arith));
      }

  pub filled_to_row : g.borders ≤ b → FilledTo g p (i + 1) 0
  filled_to_row h =
      record {
        row = omega arith;
        border = omega arith;
        long = u.long;
        filled = λ j l. u.filled j (omega (arith, u.border, suc-mul i g.borders, ap (λ (x : ℕ). x * g.borders) (add-one i)));
      }

pub filled_to_all : {g : Grid} {p : List ℕ} {i : ℕ} → FilledTo g p i 0 → g.rows ≤ i → p ≡ cells g
filled_to_all {g} {p} {i} u h =
    let e : i ≡ g.rows = omega (arith, u.row) in
    table_of (g.rows * g.borders) _ p 0 u.long (λ j l. u.filled j (omega (arith, ap (λ (x : ℕ). x * g.borders) e)))

-- ---- which of 5, 6 and 7 decides
module _ (marked : ℕ → Bool) (h : Header) (borders : List (List ℤ)) (factors : List ℤ) (states : List ℕ) (starts : List ℤ) where
  abbrev free : ℕ → Bool
  free = free_of marked h borders factors states

  abbrev low : ℕ → Bool
  low i = kept states i && (not (is_intraday h) && lt_z (at_ℤ starts i) (pos 0))

  module _ (long : length states ≡ h.rows) where
    pub none_kept : some_below (length states) (kept states) ≡ false → Err no_row ≡ judge_start marked h borders factors states starts
    unfolding judge_start judge_by grid_of grid_by setup_with
    none_kept e = sym (unless_refused _ _ (subst (λ (n : ℕ). some_below n (kept states) ≡ false) long e))

    module _ (k : some_below (length states) (kept states) ≡ true) where
      past-kept : judge_start marked h borders factors states starts ≡ refuse_first h.borders free unlimited (refuse_first h.rows low below_zero (Ok states))
      unfolding judge_start judge_by grid_of grid_by setup_with
      past-kept = unless_ok _ _ (subst (λ (n : ℕ). some_below n (kept states) ≡ true) long k)

      pub border_free : (b : ℕ) → Some b ≡ first_from h.borders 0 free → Err (unlimited b) ≡ judge_start marked h borders factors states starts
      border_free b e = sym (past-kept ∙ first_found _ _ _ _ (sym e))

      module _ (u : None ≡ first_from h.borders 0 free) where
        past-free : judge_start marked h borders factors states starts ≡ refuse_first h.rows low below_zero (Ok states)
        past-free = past-kept ∙ first_none_next _ _ _ _ (sym u)

        of-rows : first_from (length states) 0 low ≡ first_from h.rows 0 low
        of-rows = ap (λ (n : ℕ). first_from n 0 low) long

        pub row_below : (i : ℕ) → Some i ≡ first_from (length states) 0 low → Err (below_zero i) ≡ judge_start marked h borders factors states starts
        row_below i e = sym (past-free ∙ first_found _ _ _ _ (sym (e ∙ of-rows)))

        pub may_start : None ≡ first_from (length states) 0 low → Ok states ≡ judge_start marked h borders factors states starts
        may_start e = sym (past-free ∙ first_none_next _ _ _ _ (sym (e ∙ of-rows)))

-- ---- what was filled in is what the definitions say
pub prepared_by : (marked : ℕ → Bool) (t : Table) (r : Ruling) {rams starts : List ℤ} {states : List ℕ} → standings_with rams states ≡ standings_of t → starts ≡ starts_of t
    → said_judgement r states ≡ judge_start marked t.header t.borders t.factors states starts → prepared r rams starts states ≡ prepared_of marked t
unfolding prepared_of judge_start
prepared_by marked t r {rams} {starts} {states} m s w =
    let e : states ≡ (standings_of t).states = ap (λ (n : Standings). n.states) m in
    let judged : said_judgement r states ≡ judge_marked marked t = w ∙ ap₂ (λ (ss : List ℕ) (ms : List ℤ). judge_start marked t.header t.borders t.factors ss ms) e s in
    ap₂ {C = Prepared} (λ (j : Judged (List ℕ)) (n : Standings). record { judged = j; rows = n; starts = starts }) judged m
    ∙ ap {B = Prepared} (λ (ms : List ℤ). record { judged = judge_marked marked t; rows = standings_of t; starts = ms }) s

-- what `prepare` left is what the definitions say, part by part
pub record PreparedAs (marked : ℕ → Bool) (t : Table) (r : Ruling) (rams starts : List ℤ) (states : List ℕ) : Type 0 where
  pub judged : said_judgement r states ≡ judge_marked marked t
  pub rows : standings_with rams states ≡ standings_of t
  pub starts_are : starts ≡ starts_of t

pub prepared_as : {marked : ℕ → Bool} {t : Table} (r : Ruling) {rams starts : List ℤ} {states : List ℕ} → prepared r rams starts states ≡ prepared_of marked t → PreparedAs marked t r rams starts states
unfolding prepared_of
prepared_as r e =
    record {
      judged = ap (λ (q : Prepared). q.judged) e;
      rows = ap (λ (q : Prepared). q.rows) e;
      starts_are = ap (λ (q : Prepared). q.starts) e;
    }

-- the table of p and the margins, laid out from what was prepared
pub margins_are : (h : Header) (b : List (List ℤ)) (states : List ℕ) (starts : List ℤ) {margins : List ℕ} → length states ≡ h.rows
    → margins ≡ table (length states) (λ i. cond (kept states i) (positive_part (at_ℤ starts i)) 0) → margins ≡ (start_of h b states starts).margins
unfolding start_of begin_by setup_with
margins_are h b states starts long e = e ∙ ap (λ (n : ℕ). table n (λ i. cond (kept states i) (positive_part (at_ℤ starts i)) 0)) long

pub laid_grid : (marked : ℕ → Bool) (t : Table) {rams : List ℤ} {states p : List ℕ} → standings_with rams states ≡ standings_of t → p ≡ cells (grid_of marked t.header t.borders t.factors states) → p ≡ cells (grid_marked marked t)
unfolding grid_of grid_by setup_with
laid_grid marked t m e = e ∙ ap (λ (n : Standings). cells (grid_of marked t.header t.borders t.factors n.states)) m

pub laid_margins : (t : Table) {rams starts : List ℤ} {states margins : List ℕ} → standings_with rams states ≡ standings_of t → starts ≡ starts_of t
    → margins ≡ (start_of t.header t.borders states starts).margins → margins ≡ (table_start t).margins
unfolding start_of begin_by setup_with
laid_margins t m s e = e ∙ ap₂ (λ (n : Standings) (ms : List ℤ). (start_of t.header t.borders n.states ms).margins) m s

pub filled_long : (marked : ℕ → Bool) (h : Header) (b : List (List ℤ)) (f : List ℤ) (states : List ℕ) {p : List ℕ} → p ≡ cells (grid_of marked h b f states) → length p ≡ h.rows * h.borders
unfolding grid_of grid_by setup_with
filled_long marked h b f states e = ap length e ∙ table_long (h.rows * h.borders) _

pub grid_long : (marked : ℕ → Bool) (t : Table) {p : List ℕ} → p ≡ cells (grid_marked marked t) → length p ≡ t.header.rows * t.header.borders
unfolding grid_by setup_with
grid_long marked t e = ap length e ∙ table_long (t.header.rows * t.header.borders) _

-- ---- exchanges
pub exchanges_are : (intraday : Bool) (b : List (List ℤ)) (ys zs : List ℕ) → ys ≡ froms intraday b → zs ≡ table borders_most (λ k. 0) → ys ++ drop (length b) zs ≡ exchanges_of intraday b
exchanges_are intraday b ys zs e u =
    ap₂ (λ (y z : List ℕ). y ++ drop (length b) z) e u
    ∙ ap (λ (n : ℕ). froms intraday b ++ drop n (table borders_most (λ k. 0))) (sym (table_long (length b) (λ k. from_by intraday (border_of (get_or b k [])))))
