use mathlib.Core.Path.{◌≡◌}
use Prim.Native.Nat.{◌*◌, ◌≤◌, ◌+◌}
use native.Mathlib.Omega.{arith}
use lib.ListN.{length}
use Rattle.numbers.proofs.ListLaws.{part_long}
use Rattle.numbers.proofs.BelowLaws.{summed_none, summed_more}
use Rattle.tablerules.specs.Table.{stretch}
use Rattle.tablerules.proofs.StretchLaws.{stretch_end}
use Rattle.layout.specs.Layout.{row_text_in}
use Rattle.layout.proofs.SumLaws.{part_count, sum_within, sum_lines}
use Rattle.limits.specs.Limits.{bytes_most}
use Rattle.layout.proofs.length.rows_length.Goals as goal

counted : (c : goal.After-row_length-sum) → c.row_length-sum.result ≡ length (row_text_in c.args.kind c.args.zones c.args.c.now c.args.f.now c.loop-i.i)
unfolding stretch
counted c = rw (part_count c.loop-i.i c.args.zones) at c.row_length-sum.ensures

pub loop-i-init : goal.loop-i-init
loop-i-init c = summed_none _ _

pub overflow_mul-start : goal.overflow_mul-start
overflow_mul-start c = omega (arith, stretch_end c.args.zones (length c.args.c.now) c.loop-i.i (omega arith), c.requires.0)

pub overflow_add-start : goal.overflow_add-start
overflow_add-start c = omega (arith, stretch_end c.args.zones (length c.args.c.now) c.loop-i.i (omega arith), c.requires.0)

pub offset_bounds-f-start : goal.offset_bounds-f-start
offset_bounds-f-start c = omega (arith, stretch_end c.args.zones (length c.args.c.now) c.loop-i.i (omega arith), c.requires.0)

pub slice_bounds-row_length-start : goal.slice_bounds-row_length-start
slice_bounds-row_length-start c = omega (arith, stretch_end c.args.zones (length c.args.c.now) c.loop-i.i (omega arith), c.requires.0)

pub slice_bounds-row_length-end : goal.slice_bounds-row_length-end
slice_bounds-row_length-end c = omega (arith, stretch_end c.args.zones (length c.args.c.now) c.loop-i.i (omega arith), c.requires.0)

pub row_length-sum-requires : goal.row_length-sum-requires
unfolding stretch
row_length-sum-requires c =
    let within : c.loop-i.sum + length (row_text_in c.args.kind c.args.zones c.args.c.now c.args.f.now c.loop-i.i) ≤ bytes_most = sum_within (row_text_in c.args.kind c.args.zones c.args.c.now c.args.f.now) (length c.args.c.now) c.requires.3 c.loop-i.invariant (omega arith) in
    let n = part_long c.args.f.now (c.loop-i.i * c.args.zones) c.args.zones (omega (arith, stretch_end c.args.zones (length c.args.c.now) c.loop-i.i (omega arith), c.requires.0)) in
    (omega (arith, n, c.requires.1), omega (arith, n, c.requires.2), rw (part_count c.loop-i.i c.args.zones) (omega (arith, within)))

pub overflow_add-sum : goal.overflow_add-sum
overflow_add-sum c =
    let within : c.loop-i.sum + length (row_text_in c.args.kind c.args.zones c.args.c.now c.args.f.now c.loop-i.i) ≤ bytes_most = sum_within (row_text_in c.args.kind c.args.zones c.args.c.now c.args.f.now) (length c.args.c.now) c.requires.3 c.loop-i.invariant (omega arith) in
    omega (arith, within, counted c)

pub loop-i-preserved : goal.loop-i-preserved
loop-i-preserved c = summed_more c.loop-i.invariant _ (omega arith) (counted c)

pub returns : goal.returns
returns c = sum_lines (row_text_in c.args.kind c.args.zones c.args.c.now c.args.f.now) (length c.args.c.now) c.requires.3 c.loop-i.invariant (omega arith)
