-- `columns::write::head_length` meets its contract: an index has at most 20 digits.
use mathlib.Core.Path.{ap}
use native.Mathlib.Omega.{arith}
use Rattle.text.proofs.DigitLaws.{decimal_u64}
use Rattle.columns.specs.ColumnText.{head_length}
use Rattle.columns.proofs.write.head_length.Goals as goal

pub overflow_add-result : goal.overflow_add-result
overflow_add-result c = omega (arith, c.digit_count.ensures, decimal_u64 c.in-Indexed.i c.in-Indexed.known_told-1-own.given.1.0.1)

pub overflow_add-result-in-Bare : goal.overflow_add-result-in-Bare
overflow_add-result-in-Bare c = omega (arith, c.digit_count-in-Bare.ensures, decimal_u64 c.in-Bare.i c.in-Bare.known_told-in-Bare-1-own.given.0.1)

pub returns-in-Indexed : goal.returns-in-Indexed
returns-in-Indexed c = omega (arith, c.digit_count.ensures, ap head_length c.in-Indexed.is)

pub returns-in-Bare : goal.returns-in-Bare
returns-in-Bare c = omega (arith, c.digit_count-in-Bare.ensures, ap head_length c.in-Bare.is)
