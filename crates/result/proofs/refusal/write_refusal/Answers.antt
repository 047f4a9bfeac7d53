-- `result::refusal::write_refusal` meets its contract: too short (`text-short`), or the E line and then what stood there (`text_out`).
use native.Mathlib.Omega.{arith}
use Rattle.text.proofs.LeftLaws.{text_short, text_out}
use Rattle.result.specs.Refusal.{refusal_line}
use Rattle.result.proofs.refusal.write_refusal.Goals as goal

pub returns-then-out-needed : goal.returns-then-out-needed
returns-then-out-needed c = (text_short (refusal_line c.args.number c.args.place c.args.byte) c.args.out.now _ c.refusal_length-needed.ensures.0 (omega arith), omega (arith, c.refusal_length-needed.ensures.1))

pub put_refusal-requires : goal.put_refusal-requires
put_refusal-requires c = omega (arith, c.refusal_length-needed.ensures.0)

pub returns : goal.returns
returns c = (text_out (refusal_line c.args.number c.args.place c.args.byte) c.args.out.now (omega (arith, c.refusal_length-needed.ensures.0)) c.put_refusal.ensures, omega (arith, c.refusal_length-needed.ensures, c.put_refusal.ensures.0))
