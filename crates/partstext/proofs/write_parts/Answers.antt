-- `partstext::write_parts` meets its contract: the room, and then the lines.
use native.Mathlib.Omega.{arith}
use Rattle.text.proofs.LeftLaws.{text_short, text_written}
use Rattle.partstext.proofs.write_parts.Goals as goal

pub text_length-needed-requires : goal.text_length-needed-requires
text_length-needed-requires c = c.requires

pub returns-then-out-needed : goal.returns-then-out-needed
returns-then-out-needed c = text_short _ _ _ c.text_length-needed.ensures (omega arith)

pub put_parts-requires : goal.put_parts-requires
put_parts-requires c = omega (arith, c.text_length-needed.ensures)

pub returns : goal.returns
returns c = text_written _ _ (omega (arith, c.text_length-needed.ensures)) c.put_parts.ensures
