use native.Mathlib.Omega.{arith}
use Rattle.numbers.proofs.IntLaws.{plain}
use Rattle.text.specs.Put.{Put}
use Rattle.text.proofs.PutLaws.{put_kept}
use Rattle.types.specs.LineColumns.{columns_of}
use Rattle.columns.specs.ColumnText.{fields_ended}
use Rattle.columns.proofs.ColumnPut.{writing_none, writing_room, writing_more, writing_all}
use Rattle.columns.proofs.write.put_fields.Goals as goal

all : (c : goal.After-loop-k) → Put (fields_ended c.args.sep c.args.last (columns_of c.args.columns.now) c.args.values.now) c.args.at c.args.out.now c.loop-k.next c.loop-k.out
all c = writing_all c.args.columns.now c.args.values.now c.args.sep c.args.last c.args.at c.args.out.now _ _ _ c.loop-k.invariant (omega arith)

pub loop-k-init : goal.loop-k-init
loop-k-init c = writing_none _ _ _ _ _ _

pub offset_bounds-values-k : goal.offset_bounds-values-k
offset_bounds-values-k c = omega (arith, c.requires.0)

pub bounds-values-k : goal.bounds-values-k
bounds-values-k c = omega (arith, c.requires.0)

pub put_field-next-requires : goal.put_field-next-requires
put_field-next-requires c = simp (plain, c.put_field-arg-1.given) (writing_room c.args.columns.now c.args.values.now c.args.sep c.args.last c.args.at c.args.out.now c.loop-k.out c.loop-k.next c.loop-k.k c.loop-k.invariant c.requires.0 c.loop-k-test.true c.requires.1 _ c.stop_of.ensures)

pub loop-k-preserved : goal.loop-k-preserved
loop-k-preserved c = writing_more c.args.columns.now c.args.values.now c.args.sep c.args.last c.args.at c.args.out.now c.loop-k.out c.loop-k.next c.loop-k.k c.loop-k.invariant c.requires.0 c.loop-k-test.true c.requires.1 _ c.stop_of.ensures (simp (plain, c.put_field-arg-1.given) at c.put_field-next.ensures)

pub shape_of-out : goal.shape_of-out
shape_of-out c = put_kept (all c) c.requires.1

pub returns : goal.returns
returns c = all c
