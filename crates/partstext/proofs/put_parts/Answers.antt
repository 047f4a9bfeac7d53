use native.Mathlib.Nat.{zero-add}
use native.Mathlib.Omega.{arith}
use lib.ListN.{length}
use Rattle.text.specs.Put.{Put}
use Rattle.text.proofs.PutLaws.{lines_none, lines_more, lines_all_lem, lines_room, put_kept}
use Rattle.partstext.specs.PartsText.{parts_line_at, parts_text}
use Rattle.partstext.proofs.put_parts.Goals as goal

pub loop-i-init : goal.loop-i-init
loop-i-init c = (omega arith, lines_none _ _ _)

pub put_line-next-requires : goal.put_line-next-requires
put_line-next-requires c = lines_room (parts_line_at c.args.records.now) c.loop-i.i (length c.args.records.now) {at = 0} {out = c.args.out.now} (omega arith) (rw zero-add c.requires) c.loop-i.invariant.1

pub loop-i-preserved : goal.loop-i-preserved
loop-i-preserved c = (omega arith, lines_more (parts_line_at c.args.records.now) (omega arith) c.loop-i.invariant.1 c.put_line-next.ensures)

pub shape_of-out : goal.shape_of-out
shape_of-out c = let all : Put (parts_text c.args.records.now) 0 c.args.out.now c.loop-i.next c.loop-i.out = lines_all_lem (parts_line_at c.args.records.now) c.loop-i.invariant.0 (omega arith) c.loop-i.invariant.1 in
    put_kept all (rw zero-add c.requires)

pub returns : goal.returns
returns c = let all : Put (parts_text c.args.records.now) 0 c.args.out.now c.loop-i.next c.loop-i.out = lines_all_lem (parts_line_at c.args.records.now) c.loop-i.invariant.0 (omega arith) c.loop-i.invariant.1 in
    all
