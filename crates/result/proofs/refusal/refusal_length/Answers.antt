-- `result::refusal::refusal_length` meets its contract (`refusal_length`): a number has at most 20 digits, so the sums fit.
use mathlib.Core.Path.{◌≡◌}
use Prim.Native.Nat.{◌+◌}
use native.Mathlib.Omega.{arith}
use lib.ListN.{length}
use Rattle.text.proofs.DigitLaws.{decimal_u64}
use Rattle.result.specs.Refusal.{refusal_line}
use Rattle.result.proofs.RecordsLaws.{refusal_length, refusal_most_lem}
use Rattle.result.proofs.refusal.refusal_length.Goals as goal

pub overflow_add-result : goal.overflow_add-result
overflow_add-result c = omega (arith, c.digit_count.ensures, decimal_u64 c.args.number (omega arith))

pub overflow_add-result-2 : goal.overflow_add-result-2
overflow_add-result-2 c = omega (
  arith,
  c.digit_count.ensures,
  c.digit_count-2.ensures,
  decimal_u64 c.args.number (omega arith),
  decimal_u64 c.args.place (omega arith),
)

pub overflow_add-result-3 : goal.overflow_add-result-3
overflow_add-result-3 c = omega (
  arith,
  c.digit_count.ensures,
  c.digit_count-2.ensures,
  c.digit_count-3.ensures,
  decimal_u64 c.args.number (omega arith),
  decimal_u64 c.args.place (omega arith),
  decimal_u64 c.args.byte (omega arith),
)

pub returns : goal.returns
returns c = let sum : 5 + c.digit_count.result + c.digit_count-2.result + c.digit_count-3.result ≡ length (refusal_line c.args.number c.args.place c.args.byte) =
    omega (arith, c.digit_count.ensures, c.digit_count-2.ensures, c.digit_count-3.ensures, refusal_length c.args.number c.args.place c.args.byte) in
    (sum, omega (arith, sum, refusal_most_lem c.args.number c.args.place c.args.byte (omega arith) (omega arith) (omega arith)))
