use native.Mathlib.Omega.{arith}
use Rattle.text.specs.Fields.{feed}
use Rattle.tidy.proofs.ClipLaws.{left_long}
use Rattle.tidy.proofs.FieldsLeft.{piece_le}
use Rattle.tidy.proofs.LinesLeft.{lines_none, lines_more, lines_room, lines_all_lem}
use Rattle.tidy.proofs.write_lines.Goals.{then-w, else-w}
use Rattle.tidy.proofs.write_lines.Goals as goal

pub loop-p-init : goal.loop-p-init
loop-p-init c = lines_none c.args.text.now c.args.out.now

pub slice_bounds-write_line-count : goal.slice_bounds-write_line-count
slice_bounds-write_line-count c = omega (arith, c.piece_end-e.ensures)

pub slice_bounds-write_line-start : goal.slice_bounds-write_line-start
slice_bounds-write_line-start c = omega (arith, c.piece_end-e.ensures)

pub slice_bounds-write_line-end : goal.slice_bounds-write_line-end
slice_bounds-write_line-end c = piece_le feed feed c.args.text.now c.loop-p.p c.piece_end-e.result (omega arith) c.piece_end-e.ensures

pub write_line-w-requires : goal.write_line-w-requires
write_line-w-requires c = omega (arith, lines_room c.loop-p.invariant c.piece_end-e.result c.loop-p-test.true c.piece_end-e.ensures c.requires)

pub put-at-requires : goal.put-at-requires
put-at-requires c = omega (arith, c.write_line-w.ensures.put.after, lines_room c.loop-p.invariant c.piece_end-e.result c.loop-p-test.true c.piece_end-e.ensures c.requires)

pub overflow_add-p : goal.overflow_add-p
overflow_add-p c = omega (arith, piece_le feed feed c.args.text.now c.loop-p.p c.piece_end-e.result (omega arith) c.piece_end-e.ensures)

pub loop-p-smaller : goal.loop-p-smaller
loop-p-smaller c = omega (arith, c.piece_end-e.ensures)

pub loop-p-preserved : goal.loop-p-preserved
loop-p-preserved c = lines_more c.loop-p.invariant c.piece_end-e.result c.loop-p-test.true c.piece_end-e.ensures c.write_line-w.result _ c.put-at.result c.if-w.kept _ c.write_line-w.ensures c.put-at.ensures (elim c.if-w.branch [ then-w w ↦ rw w.if-w.true w.kept-is | else-w w ↦ rw w.if-w.false w.kept-is ])

pub shape_of-out : goal.shape_of-out
shape_of-out c = left_long c.loop-p.invariant.left

pub returns : goal.returns
returns c = lines_all_lem c.loop-p.invariant (omega arith)
