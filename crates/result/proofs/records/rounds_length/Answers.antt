-- `result::records::rounds_length` meets its contract (`rounds-length`).
use native.Mathlib.Omega.{arith}
use Rattle.text.proofs.DigitLaws.{decimal_u64}
use Rattle.result.proofs.RecordsLaws.{rounds_length}
use Rattle.result.proofs.records.rounds_length.Goals as goal

pub overflow_add-result : goal.overflow_add-result
overflow_add-result c = omega (arith, c.digit_count.ensures, decimal_u64 c.args.rounds (omega arith))

pub returns : goal.returns
returns c = omega (arith, c.digit_count.ensures, rounds_length c.args.rounds)
