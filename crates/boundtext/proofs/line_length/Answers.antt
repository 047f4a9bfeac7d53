-- `boundtext::line_length` meets its contract: a machine number has at most 20 bytes.
use native.Mathlib.Omega.{arith}
use Rattle.text.proofs.DigitLaws.{decimal_u64}
use Rattle.boundtext.proofs.BoundTextLaws.{bound_line_long}
use Rattle.boundtext.proofs.line_length.Goals as goal

pub overflow_add-result : goal.overflow_add-result
overflow_add-result c = omega (arith, c.digit_count-n_digits.ensures, decimal_u64 c.args.n c.ranges.n.fits)

pub overflow_add-result-2 : goal.overflow_add-result-2
overflow_add-result-2 c = omega (arith, c.digit_count-n_digits.ensures, decimal_u64 c.args.n c.ranges.n.fits, c.digit_count-l_digits.ensures, decimal_u64 c.args.l c.ranges.l.fits)

pub overflow_add-result-3 : goal.overflow_add-result-3
overflow_add-result-3 c = omega (arith, c.digit_count-n_digits.ensures, decimal_u64 c.args.n c.ranges.n.fits, c.digit_count-l_digits.ensures, decimal_u64 c.args.l c.ranges.l.fits, c.digit_count-rounds_digits.ensures, decimal_u64 c.args.rounds c.ranges.rounds.fits)

pub overflow_add-result-4 : goal.overflow_add-result-4
overflow_add-result-4 c = omega (arith, c.digit_count-n_digits.ensures, decimal_u64 c.args.n c.ranges.n.fits, c.digit_count-l_digits.ensures, decimal_u64 c.args.l c.ranges.l.fits, c.digit_count-rounds_digits.ensures, decimal_u64 c.args.rounds c.ranges.rounds.fits, c.digit_count.ensures, decimal_u64 c.args.sharp c.ranges.sharp.fits)

pub returns : goal.returns
returns c = (
  omega (
    arith,
    bound_line_long c.args.n c.args.l c.args.rounds c.args.sharp,
    c.digit_count-n_digits.ensures,
    c.digit_count-l_digits.ensures,
    c.digit_count-rounds_digits.ensures,
    c.digit_count.ensures,
  ),
  omega (arith, c.digit_count-n_digits.ensures, decimal_u64 c.args.n c.ranges.n.fits, c.digit_count-l_digits.ensures, decimal_u64 c.args.l c.ranges.l.fits, c.digit_count-rounds_digits.ensures, decimal_u64 c.args.rounds c.ranges.rounds.fits, c.digit_count.ensures, decimal_u64 c.args.sharp c.ranges.sharp.fits),
)
