-- `daylines::put_heading` meets its contract: the laws `heading-none` and `heading-some`.
use native.Mathlib.Omega.{arith}
use borrow.Author.Tests.{not-true, not-false}
use Rattle.text.proofs.PutLaws.{put_room}
use Rattle.daylines.proofs.PutLaws.{heading_none, heading_long, heading_some}
use Rattle.daylines.proofs.put_heading.Goals as goal

pub returns-then-not-begins : goal.returns-then-not-begins
returns-then-not-begins c = heading_none c.args.label.now c.args.begins _ _ (not-true _ c.if-not-begins.true-raw)

pub put_bytes-next-requires : goal.put_bytes-next-requires
put_bytes-next-requires c = omega (arith, c.requires, heading_long c.args.label.now c.args.begins (not-false _ c.if-not-begins.false-raw))

pub put_byte-requires : goal.put_byte-requires
put_byte-requires c = omega (arith, put_room c.put_bytes-next.ensures 1 (omega (arith, c.requires, heading_long c.args.label.now c.args.begins (not-false _ c.if-not-begins.false-raw))))

pub returns : goal.returns
returns c = heading_some c.args.label.now c.args.begins (not-false _ c.if-not-begins.false-raw) (omega (arith, c.requires)) c.put_bytes-next.ensures c.put_byte.ensures
