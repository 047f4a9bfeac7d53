use mathlib.Core.Path.{◌∙◌}
use native.Mathlib.Omega.{arith}
use Rattle.text.specs.Fields.{tab}
use Rattle.tidyrules.specs.Tidied.{semicolon}
use Rattle.tidy.specs.Clip.{places_most}
use Rattle.tidy.proofs.ClipLaws.{clip_long, clip_more, left_long}
use Rattle.tidy.proofs.FieldsLeft.{fields_count, fields_none, fields_more, fields_room, last_room, fields_all, piece_le}
use Rattle.tidy.proofs.line.write_line.Goals as goal

pub loop-e-init : goal.loop-e-init
loop-e-init c = fields_none c.args.line.now c.args.at c.piece_end-e.result c.args.out.now c.piece_end-e.ensures

pub write_field-next-requires : goal.write_field-next-requires
write_field-next-requires c = omega (arith, fields_room c.loop-e.invariant c.loop-e-test.true c.is_row-row.result c.wanted.result places_most c.is_row-row.ensures c.wanted.ensures c.requires)

pub put-next-requires : goal.put-next-requires
put-next-requires c = omega (arith, c.write_field-next.ensures.after, fields_room c.loop-e.invariant c.loop-e-test.true c.is_row-row.result c.wanted.result places_most c.is_row-row.ensures c.wanted.ensures c.requires)

pub overflow_add-k : goal.overflow_add-k
overflow_add-k c = omega (arith, c.loop-e.invariant.few, c.loop-e.invariant.end)

pub loop-e-smaller : goal.loop-e-smaller
loop-e-smaller c = omega (arith, c.loop-e.invariant.end)

pub loop-e-preserved : goal.loop-e-preserved
loop-e-preserved c = fields_more c.loop-e.invariant c.loop-e-test.true c.is_row-row.result c.wanted.result c.put-next.result c.piece_end-e-in-loop-e.result _ c.is_row-row.ensures c.wanted.ensures (clip_more c.write_field-next.ensures c.put-next.ensures) c.piece_end-e-in-loop-e.ensures

pub slice_bounds-write_field-end-2 : goal.slice_bounds-write_field-end-2
slice_bounds-write_field-end-2 c = piece_le tab semicolon c.args.line.now c.loop-e.p c.loop-e.e c.loop-e.invariant.within c.loop-e.invariant.end

pub write_field-end-requires : goal.write_field-end-requires
write_field-end-requires c = last_room c.loop-e.invariant (omega arith) c.is_row-row.result c.wanted-2.result places_most c.is_row-row.ensures c.wanted-2.ensures c.requires

pub overflow_add-result : goal.overflow_add-result
overflow_add-result c = omega (arith, fields_count c.loop-e.invariant, c.requires)

pub shape_of-out : goal.shape_of-out
shape_of-out c = clip_long c.write_field-end.ensures ∙ left_long c.loop-e.invariant.left

pub returns : goal.returns
returns c = fields_all c.loop-e.invariant (omega arith) c.is_row-row.result c.wanted-2.result c.write_field-end.result _ c.is_row-row.ensures c.wanted-2.ensures c.write_field-end.ensures
