-- `daysheet::put_refused` meets its contract: a letter and three numbers, one after another (`put-more`).
use native.Mathlib.Omega.{arith}
use Rattle.text.proofs.PutLaws.{put_more}
use Rattle.daysheet.proofs.put_refused.Goals as goal

pub returns : goal.returns
returns c = put_more (put_more (put_more c.put_byte-next.ensures (omega (arith, c.requires)) c.put_behind-next.ensures.put) (omega (arith, c.requires)) c.put_behind-next-2.ensures.put) (omega (arith, c.requires)) c.put_behind.ensures.put
