use native.Mathlib.Nat.{zero-add}
use native.Mathlib.Omega.{arith}
use lib.ListN.{length}
use Rattle.numbers.proofs.IntLaws.{plain}
use Rattle.text.specs.Put.{Put}
use Rattle.text.proofs.PutLaws.{lines_none, lines_more, lines_all_lem, lines_room, put_kept}
use Rattle.cornertext.specs.CornerText.{corner_line_at, corners_text}
use Rattle.cornertext.proofs.put_corners.Goals as goal

pub loop-k-init : goal.loop-k-init
loop-k-init c = (omega arith, lines_none _ _ _)

pub put_corner-next-requires : goal.put_corner-next-requires
unfolding corners_text
put_corner-next-requires c = let room = lines_room (corner_line_at c.args.row c.args.flows.now) c.loop-k.k (length c.args.flows.now) {at = 0} {out = c.args.out.now} (omega arith) (rw zero-add c.requires.1) c.loop-k.invariant.1 in
    (omega (arith, c.requires.0), simp (plain, c.put_corner-arg-1.given) room)

pub loop-k-preserved : goal.loop-k-preserved
loop-k-preserved c = (omega arith, lines_more (corner_line_at c.args.row c.args.flows.now) (omega arith) c.loop-k.invariant.1 (simp (plain, c.put_corner-arg-1.given) at c.put_corner-next.ensures))

pub shape_of-out : goal.shape_of-out
unfolding corners_text
shape_of-out c = let all : Put (corners_text c.args.row c.args.flows.now) 0 c.args.out.now c.loop-k.next c.loop-k.out = lines_all_lem (corner_line_at c.args.row c.args.flows.now) c.loop-k.invariant.0 (omega arith) c.loop-k.invariant.1 in
    put_kept all (rw zero-add c.requires.1)

pub returns : goal.returns
unfolding corners_text
returns c = let all : Put (corners_text c.args.row c.args.flows.now) 0 c.args.out.now c.loop-k.next c.loop-k.out = lines_all_lem (corner_line_at c.args.row c.args.flows.now) c.loop-k.invariant.0 (omega arith) c.loop-k.invariant.1 in
    all
