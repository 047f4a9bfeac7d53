-- `daysheet::put_border` meets its contract: five fields, one after another (`put-more`), each of at most 20 digits.
use native.Mathlib.Omega.{arith}
use Rattle.text.proofs.DigitLaws.{decimal_u64}
use Rattle.text.proofs.PutLaws.{put_more}
use Rattle.daysheet.proofs.put_border.Goals as goal

pub put_number-next-requires : goal.put_number-next-requires
put_number-next-requires c = omega (arith, decimal_u64 c.args.b (omega arith))

pub put_behind-next-requires : goal.put_behind-next-requires
put_behind-next-requires c = omega (arith, decimal_u64 c.args.b (omega arith))

pub put_behind-next-requires-2 : goal.put_behind-next-requires-2
put_behind-next-requires-2 c = omega (arith, decimal_u64 c.args.b (omega arith))

pub put_hub-next-requires : goal.put_hub-next-requires
put_hub-next-requires c = omega (arith, decimal_u64 c.args.b (omega arith))

pub put_hub-requires : goal.put_hub-requires
put_hub-requires c = omega (arith, decimal_u64 c.args.b (omega arith))

pub returns : goal.returns
returns c = put_more (put_more (put_more (put_more c.put_number-next.ensures (omega arith) c.put_behind-next.ensures.put) (omega arith) c.put_behind-next-2.ensures.put) (omega arith) c.put_hub-next.ensures.put) (omega arith) c.put_hub.ensures.put
