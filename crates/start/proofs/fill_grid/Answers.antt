use mathlib.Core.Path.{◌≡◌, sym, ap, subst, ◌∙◌}
use mathlib.Core.Bool.{true, cond, ◌&&◌}
use mathlib.Core.List.{List, []}
use Prim.Native.Nat.{ℕ}
use native.Mathlib.Omega.{arith}
use lib.IntN.{ℤ}
use lib.ListN.{get_or}
use Rattle.types.specs.Ranges.{border_fits, border_of}
use Rattle.marks.specs.Marks.{flagged}
use Rattle.marginrules.specs.Margin.{p_of}
use Rattle.marginrules.proofs.JudgedLaws.{part_long, part_ranges}
use Rattle.setup.specs.Setup.{grid_by}
use Rattle.staterules.specs.States.{kept}
use Rattle.extractrules.specs.Start.{grid_of, setup_with}
use Rattle.extractrules.proofs.StartLaws.{filled_to_none, filled_to_place, filled_to_more, filled_to_row, filled_to_all}
use Rattle.start.proofs.fill_grid.Goals as goal

pub loop-i-init : goal.loop-i-init
unfolding grid_of grid_by setup_with
loop-i-init c = filled_to_none _ _ c.requires.p_len

pub bounds-states-i : goal.bounds-states-i
bounds-states-i c = omega (arith, c.requires.states_len)

pub row_factors-factors-requires : goal.row_factors-factors-requires
row_factors-factors-requires c = record { table_factors_in_range = c.requires.table_factors_in_range; i_lt_rows = omega arith }

pub loop-k-init : goal.loop-k-init
loop-k-init c = c.loop-i.invariant

pub offset_bounds-flags-k : goal.offset_bounds-flags-k
offset_bounds-flags-k c = omega (arith, c.requires.b_len.1)

pub bounds-flags-k : goal.bounds-flags-k
bounds-flags-k c = omega (arith, c.requires.b_len.1)

pub offset_bounds-b-k : goal.offset_bounds-b-k
offset_bounds-b-k c = omega (arith, c.requires.b_len.0)

pub bounds-b-k : goal.bounds-b-k
bounds-b-k c = omega (arith, c.requires.b_len.0)

pub cell-requires : goal.cell-requires
cell-requires c =
    let h = c.requires.table_factors_in_range in
    let e = c.row_factors-factors.ensures in record {
      factors_in_range = part_ranges h c.loop-i.i (omega arith) e;
      raw_value = subst (λ (n : ℕ). border_fits n (get_or c.args.b.now c.loop-k.k []) ≡ true) (sym (part_long h c.loop-i.i (omega arith) e)) (c.requires.borders_in_range.each c.loop-k.k (omega (arith, c.requires.b_len.0)));
    }

pub overflow_mul-p : goal.overflow_mul-p
unfolding grid_of grid_by setup_with
overflow_mul-p c = omega (arith, filled_to_place c.loop-k.invariant (omega arith) (omega arith))

pub overflow_add-p : goal.overflow_add-p
unfolding grid_of grid_by setup_with
overflow_add-p c = omega (arith, filled_to_place c.loop-k.invariant (omega arith) (omega arith))

pub offset_bounds-p-i : goal.offset_bounds-p-i
unfolding grid_of grid_by setup_with
offset_bounds-p-i c = omega (arith, filled_to_place c.loop-k.invariant (omega arith) (omega arith))

pub bounds-p-i : goal.bounds-p-i
unfolding grid_of grid_by setup_with
bounds-p-i c = filled_to_place c.loop-k.invariant (omega arith) (omega arith)

pub loop-k-preserved : goal.loop-k-preserved
unfolding grid_of kept grid_by setup_with flagged
loop-k-preserved c = let a = c.args in
    filled_to_more c.loop-k.invariant (omega arith) (omega arith) _
    (c.cell.ensures ∙ ap (λ (fs : List ℤ). cond (flagged a.flags.now c.loop-k.k && kept a.states.now c.loop-i.i) (p_of fs (border_of (get_or a.b.now c.loop-k.k []))) 0) c.row_factors-factors.ensures)

pub loop-i-preserved : goal.loop-i-preserved
unfolding grid_of grid_by setup_with
loop-i-preserved c = filled_to_row c.loop-k.invariant (omega arith) (omega arith)

pub shape_of-p : goal.shape_of-p
unfolding grid_of grid_by setup_with
shape_of-p c = c.loop-i.invariant.long ∙ sym c.requires.p_len

pub returns : goal.returns
unfolding grid_of grid_by setup_with
returns c = filled_to_all c.loop-i.invariant (omega arith)
