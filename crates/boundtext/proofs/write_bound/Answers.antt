-- `boundtext::write_bound` meets its contract: the room, and then the line.
use native.Mathlib.Omega.{arith}
use Rattle.text.proofs.LeftLaws.{text_short, text_written}
use Rattle.boundtext.proofs.write_bound.Goals as goal

pub returns-then-out-needed : goal.returns-then-out-needed
returns-then-out-needed c = text_short _ _ _ c.line_length-needed.ensures.0 (omega arith)

pub put_bound-requires : goal.put_bound-requires
put_bound-requires c = omega (arith, c.line_length-needed.ensures.0)

pub returns : goal.returns
returns c = text_written _ _ (omega (arith, c.line_length-needed.ensures.0)) c.put_bound.ensures
