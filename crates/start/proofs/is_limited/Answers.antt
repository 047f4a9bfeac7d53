use mathlib.Core.Path.{◌≡◌, sym, ap, subst, ◌∙◌}
use mathlib.Core.Bool.{true, cond, ◌&&◌}
use mathlib.Core.List.{List, []}
use Prim.Native.Nat.{ℕ, ◌<◌, ◌≤◌}
use native.Mathlib.Omega.{arith}
use borrow.Author.Tests.{lt-ltb, le-ltb}
use lib.IntN.{ℤ}
use lib.ListN.{get_or}
use Rattle.numbers.specs.Below.{given}
use Rattle.numbers.proofs.BelowLaws.{looked_none, looked_all, looked_here, looked_more}
use Rattle.types.specs.Ranges.{border_fits, border_of}
use Rattle.marks.specs.Marks.{flagged}
use Rattle.marginrules.specs.Margin.{p_of}
use Rattle.marginrules.proofs.JudgedLaws.{part_long, part_ranges}
use Rattle.setup.specs.Setup.{grid_by}
use Rattle.staterules.specs.States.{kept}
use Rattle.extractrules.specs.Start.{grid_of, setup_with}
use Rattle.start.proofs.is_limited.Goals as goal

pub loop-i-init : goal.loop-i-init
loop-i-init c = looked_none _ _

pub row_factors-factors-requires : goal.row_factors-factors-requires
row_factors-factors-requires c = record { table_factors_in_range = c.requires.table_factors_in_range; i_lt_rows = omega arith }

pub offset_bounds-flags-k : goal.offset_bounds-flags-k
offset_bounds-flags-k c = omega (arith, c.requires.k_in_bounds.1)

pub bounds-flags-k : goal.bounds-flags-k
bounds-flags-k c = omega (arith, c.requires.k_in_bounds.1)

pub offset_bounds-states-i : goal.offset_bounds-states-i
offset_bounds-states-i c = omega (arith, c.requires.states_len)

pub bounds-states-i : goal.bounds-states-i
bounds-states-i c = omega (arith, c.requires.states_len)

pub offset_bounds-b-k : goal.offset_bounds-b-k
offset_bounds-b-k c = omega (arith, c.requires.k_in_bounds.0)

pub bounds-b-k : goal.bounds-b-k
bounds-b-k c = omega (arith, c.requires.k_in_bounds.0)

pub cell-requires : goal.cell-requires
cell-requires c =
    let h = c.requires.table_factors_in_range in
    let e = c.row_factors-factors.ensures in record {
      factors_in_range = part_ranges h c.loop-i.i (omega arith) e;
      raw_value = subst (λ (n : ℕ). border_fits n (get_or c.args.b.now c.args.k []) ≡ true) (sym (part_long h c.loop-i.i (omega arith) e)) (c.requires.borders_in_range.each c.args.k c.requires.k_in_bounds.0);
    }

pub returns-then-cell-gt0 : goal.returns-then-cell-gt0
unfolding given grid_of kept grid_by setup_with flagged
returns-then-cell-gt0 c = let a = c.args in
    let cell_is : c.cell.result ≡ (grid_of (flagged a.flags.now) a.h a.b.now a.f.now a.states.now).p c.loop-i.i a.k =
    c.cell.ensures ∙ ap (λ (fs : List ℤ). cond (flagged a.flags.now a.k && kept a.states.now c.loop-i.i) (p_of fs (border_of (get_or a.b.now a.k []))) 0) c.row_factors-factors.ensures in
    ap given (looked_here _ _ _ c.loop-i.invariant (omega arith) (lt-ltb _ _ (subst (λ (v : ℕ). 0 < v) (cell_is) c.if-cell-gt0.true)))

pub loop-i-preserved : goal.loop-i-preserved
unfolding grid_of kept grid_by setup_with flagged
loop-i-preserved c = let a = c.args in
    let cell_is : c.cell.result ≡ (grid_of (flagged a.flags.now) a.h a.b.now a.f.now a.states.now).p c.loop-i.i a.k =
    c.cell.ensures ∙ ap (λ (fs : List ℤ). cond (flagged a.flags.now a.k && kept a.states.now c.loop-i.i) (p_of fs (border_of (get_or a.b.now a.k []))) 0) c.row_factors-factors.ensures in
    looked_more _ _ _ c.loop-i.invariant (omega arith) (le-ltb _ _ (subst (λ (v : ℕ). v ≤ 0) (cell_is) c.if-cell-gt0.false))

pub returns : goal.returns
unfolding given
returns c = ap given (looked_all _ _ _ c.loop-i.invariant (omega arith))
