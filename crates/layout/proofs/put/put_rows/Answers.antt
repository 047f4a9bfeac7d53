use Prim.Native.Nat.{◌*◌}
use native.Mathlib.Omega.{arith}
use lib.ListN.{length}
use Rattle.numbers.proofs.ListLaws.{part_long}
use Rattle.tablerules.specs.Table.{stretch}
use Rattle.tablerules.proofs.StretchLaws.{stretch_end}
use Rattle.layout.specs.Layout.{row_text_in, rows_text_by}
use Rattle.layout.proofs.SumLaws.{part_count}
use Rattle.text.specs.Put.{Put}
use Rattle.text.proofs.PutLaws.{lines_none, lines_more, lines_all_lem, lines_room, put_kept}
use Rattle.layout.proofs.put.put_rows.Goals as goal

all : (c : goal.After-loop-i) → Put (rows_text_by c.args.kind c.args.zones c.args.c.now c.args.f.now) c.args.at c.args.out.now c.loop-i.next c.loop-i.out
all c = lines_all_lem (row_text_in c.args.kind c.args.zones c.args.c.now c.args.f.now) c.loop-i.invariant.0 (omega arith) c.loop-i.invariant.1

pub loop-i-init : goal.loop-i-init
loop-i-init c = (omega arith, lines_none _ _ _)

pub overflow_mul-start : goal.overflow_mul-start
overflow_mul-start c = omega (arith, stretch_end c.args.zones (length c.args.c.now) c.loop-i.i (omega arith), c.requires.0)

pub overflow_add-start : goal.overflow_add-start
overflow_add-start c = omega (arith, stretch_end c.args.zones (length c.args.c.now) c.loop-i.i (omega arith), c.requires.0)

pub offset_bounds-f-start : goal.offset_bounds-f-start
offset_bounds-f-start c = omega (arith, stretch_end c.args.zones (length c.args.c.now) c.loop-i.i (omega arith), c.requires.0)

pub slice_bounds-put_row-start : goal.slice_bounds-put_row-start
slice_bounds-put_row-start c = omega (arith, stretch_end c.args.zones (length c.args.c.now) c.loop-i.i (omega arith), c.requires.0)

pub slice_bounds-put_row-end : goal.slice_bounds-put_row-end
slice_bounds-put_row-end c = omega (arith, stretch_end c.args.zones (length c.args.c.now) c.loop-i.i (omega arith), c.requires.0)

pub put_row-next-requires : goal.put_row-next-requires
unfolding stretch
put_row-next-requires c = let n = part_long c.args.f.now (c.loop-i.i * c.args.zones) c.args.zones (omega (arith, stretch_end c.args.zones (length c.args.c.now) c.loop-i.i (omega arith), c.requires.0)) in
    (omega (arith, n, c.requires.1), omega (arith, n, c.requires.2), rw (part_count c.loop-i.i c.args.zones) (lines_room (row_text_in c.args.kind c.args.zones c.args.c.now c.args.f.now) c.loop-i.i (length c.args.c.now) (omega arith) c.requires.3 c.loop-i.invariant.1))

pub loop-i-preserved : goal.loop-i-preserved
unfolding stretch
loop-i-preserved c = (omega arith, lines_more (row_text_in c.args.kind c.args.zones c.args.c.now c.args.f.now) (omega (arith, c.requires.3)) c.loop-i.invariant.1 (rw (part_count c.loop-i.i c.args.zones) at c.put_row-next.ensures))

pub shape_of-out : goal.shape_of-out
shape_of-out c = put_kept (all c) c.requires.3

pub returns : goal.returns
returns c = all c
