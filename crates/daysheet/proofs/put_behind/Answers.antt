-- `daysheet::put_behind` meets its contract: a byte, and then the number, which has at most 20 digits (`decimal-u64`).
use native.Mathlib.Omega.{arith}
use Rattle.text.proofs.DigitLaws.{decimal_u64}
use Rattle.text.proofs.PutLaws.{put_more}
use Rattle.daysheet.proofs.put_behind.Goals as goal

pub put_number-requires : goal.put_number-requires
put_number-requires c = omega (arith, decimal_u64 c.args.n (omega arith))

pub returns : goal.returns
returns c = record { put = put_more c.put_byte-next.ensures (omega arith) c.put_number.ensures; upper_bound = omega (arith, decimal_u64 c.args.n (omega arith)) }
