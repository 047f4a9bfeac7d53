-- `cornertext::write_corners` meets its contract: the room, and then the lines.
use native.Mathlib.Omega.{arith}
use Rattle.text.proofs.LeftLaws.{text_short, text_written}
use Rattle.cornertext.proofs.write_corners.Goals as goal

pub returns-then-out-needed : goal.returns-then-out-needed
returns-then-out-needed c = text_short _ _ _ c.text_length-needed.ensures (omega arith)

pub returns : goal.returns
returns c = text_written _ _ (omega (arith, c.text_length-needed.ensures)) c.put_corners.ensures
