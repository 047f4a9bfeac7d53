-- `result::records::records_length` meets its contract (`text-length`).
use mathlib.Core.Path.{refl}
use mathlib.Core.Logic.{inl, inr}
use Prim.Native.Char.{code}
use native.Mathlib.Omega.{arith}
use Rattle.text.proofs.DigitLaws.{decimal_u64}
use Rattle.result.proofs.RecordsLaws.{rounds_length, text_length}
use Rattle.result.proofs.records.records_length.Goals as goal

pub lines_length-requires : goal.lines_length-requires
lines_length-requires c = (inl refl, omega (arith, c.requires.0))

pub lines_length-requires-2 : goal.lines_length-requires-2
lines_length-requires-2 c = (inr refl, c.requires.1)

pub overflow_add-result : goal.overflow_add-result
overflow_add-result c = omega (arith, c.requires.0, c.requires.1, c.lines_length.ensures.1, c.lines_length-2.ensures.1)

pub overflow_add-result-2 : goal.overflow_add-result-2
overflow_add-result-2 c = omega (
  arith,
  c.requires.0,
  c.requires.1,
  c.lines_length.ensures.1,
  c.lines_length-2.ensures.1,
  c.rounds_length.ensures,
  rounds_length c.args.rounds,
  decimal_u64 c.args.rounds (omega arith),
)

pub returns : goal.returns
returns c = (
  omega (arith, c.lines_length.ensures.0 (code "A"), c.lines_length-2.ensures.0 (code "M"), c.rounds_length.ensures, text_length c.args.atc.now c.args.left.now c.args.rounds),
  omega (arith, c.requires.0, c.requires.1, c.lines_length.ensures.1, c.lines_length-2.ensures.1, c.rounds_length.ensures, rounds_length c.args.rounds, decimal_u64 c.args.rounds (omega arith)),
)
