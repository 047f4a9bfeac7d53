-- `margin::row_factors` meets its contract.
use mathlib.Core.Path.{◌≡◌, ap}
use Prim.Native.Nat.{ℕ, ◌+◌, ◌*◌, ◌-◌}
use native.Mathlib.Omega.{arith}
use lib.ListN.{take, drop}
use Rattle.tablerules.specs.Table.{stretch}
use Rattle.marginrules.proofs.JudgedLaws.{stretch_ends}
use Rattle.margin.proofs.row_factors.Goals as goal

pub overflow_mul-start : goal.overflow_mul-start
overflow_mul-start c = omega (arith, stretch_ends c.requires.table_factors_in_range c.args.i c.requires.i_lt_rows)

pub overflow_add-result : goal.overflow_add-result
overflow_add-result c = omega (arith, stretch_ends c.requires.table_factors_in_range c.args.i c.requires.i_lt_rows)

pub offset_bounds-f-start : goal.offset_bounds-f-start
offset_bounds-f-start c = omega (arith, stretch_ends c.requires.table_factors_in_range c.args.i c.requires.i_lt_rows)

pub slice_bounds-result-end : goal.slice_bounds-result-end
slice_bounds-result-end c = omega (arith, stretch_ends c.requires.table_factors_in_range c.args.i c.requires.i_lt_rows)

pub returns : goal.returns
unfolding stretch
returns c = let e : c.args.i * c.args.h.zones + c.args.h.zones - c.args.i * c.args.h.zones ≡ c.args.h.zones = omega arith in
    ap (λ (n : ℕ). take n (drop (c.args.i * c.args.h.zones) c.args.f.now)) e
