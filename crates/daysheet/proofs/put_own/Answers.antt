-- `daysheet::put_own` meets its contract: a number has at most 20 digits.
use native.Mathlib.Omega.{arith}
use Rattle.text.proofs.DigitLaws.{decimal_u64}
use Rattle.daysheet.proofs.put_own.Goals as goal

pub put_number-requires : goal.put_number-requires
put_number-requires c = omega (arith, decimal_u64 c.in-Number.number (omega arith))
