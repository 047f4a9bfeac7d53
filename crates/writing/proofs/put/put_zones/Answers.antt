use native.Mathlib.Omega.{arith}
use lib.ListN.{length}
use Rattle.numbers.proofs.IntLaws.{plain}
use Rattle.writing.specs.Writing.{position_text_at, positions_text}
use Rattle.text.specs.Put.{Put}
use Rattle.text.proofs.PutLaws.{lines_none, lines_more, lines_all_lem, lines_room, put_kept}
use Rattle.writing.proofs.put.put_zones.Goals as goal

all : (c : goal.After-loop-i) → Put (positions_text c.args.letter c.args.z.now) c.args.at c.args.out.now c.loop-i.next c.loop-i.out
all c = lines_all_lem (position_text_at c.args.letter c.args.z.now) c.loop-i.invariant.0 (omega arith) c.loop-i.invariant.1

pub loop-i-init : goal.loop-i-init
loop-i-init c = (omega arith, lines_none _ _ _)

pub put_zone-next-requires : goal.put_zone-next-requires
put_zone-next-requires c = simp (plain, c.put_zone-arg-1.given) (lines_room (position_text_at c.args.letter c.args.z.now) c.loop-i.i (length c.args.z.now) (omega arith) c.requires c.loop-i.invariant.1)

pub loop-i-preserved : goal.loop-i-preserved
loop-i-preserved c = (omega arith, lines_more (position_text_at c.args.letter c.args.z.now) (omega (arith, c.requires)) c.loop-i.invariant.1 (simp (plain, c.put_zone-arg-1.given) at c.put_zone-next.ensures))

pub shape_of-out : goal.shape_of-out
shape_of-out c = put_kept (all c) c.requires

pub returns : goal.returns
returns c = all c
