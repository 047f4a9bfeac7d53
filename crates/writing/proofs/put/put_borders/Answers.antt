use native.Mathlib.Omega.{arith}
use lib.ListN.{length}
use Rattle.writing.specs.Writing.{border_text_at, borders_text}
use Rattle.text.specs.Put.{Put}
use Rattle.text.proofs.PutLaws.{lines_none, lines_more, lines_all_lem, lines_room, put_kept}
use Rattle.writing.proofs.put.put_borders.Goals as goal

all : (c : goal.After-loop-i) → Put (borders_text c.args.b.now) c.args.at c.args.out.now c.loop-i.next c.loop-i.out
all c = lines_all_lem (border_text_at c.args.b.now) c.loop-i.invariant.0 (omega arith) c.loop-i.invariant.1

pub loop-i-init : goal.loop-i-init
loop-i-init c = (omega arith, lines_none _ _ _)

pub put_border-next-requires : goal.put_border-next-requires
put_border-next-requires c = lines_room (border_text_at c.args.b.now) c.loop-i.i (length c.args.b.now) (omega arith) c.requires c.loop-i.invariant.1

pub loop-i-preserved : goal.loop-i-preserved
loop-i-preserved c = (omega arith, lines_more (border_text_at c.args.b.now) (omega (arith, c.requires)) c.loop-i.invariant.1 c.put_border-next.ensures)

pub shape_of-out : goal.shape_of-out
shape_of-out c = put_kept (all c) c.requires

pub returns : goal.returns
returns c = all c
