use native.Mathlib.Omega.{arith}
use Rattle.output.proofs.PuttingLaws.{putting_none}
use Rattle.daylines.proofs.PutLaws.{heading_room, byte_room, labelling_more, labelling_kept, labelling_all}
use Rattle.daylines.proofs.put_labelled.Goals as goal

pub loop-k-init : goal.loop-k-init
loop-k-init c = record { within = omega arith; putting = putting_none }

pub put_heading-next-requires : goal.put_heading-next-requires
put_heading-next-requires c = heading_room c.requires c.loop-k.invariant (omega arith)

pub put_byte-next-requires : goal.put_byte-next-requires
put_byte-next-requires c = byte_room c.requires c.loop-k.invariant (omega arith) c.put_heading-next.ensures

pub loop-k-preserved : goal.loop-k-preserved
loop-k-preserved c = labelling_more c.requires c.loop-k.invariant (omega arith) c.put_heading-next.ensures c.put_byte-next.ensures

pub shape_of-out : goal.shape_of-out
shape_of-out c = labelling_kept c.requires c.loop-k.invariant

pub returns : goal.returns
returns c = labelling_all c.requires c.loop-k.invariant (omega arith)
