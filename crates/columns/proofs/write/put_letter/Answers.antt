-- `columns::write::put_letter` meets its contract.
use native.Mathlib.Omega.{arith}
use Rattle.text.proofs.PutLaws.{put_more}
use Rattle.columns.proofs.write.put_letter.Goals as goal

pub returns : goal.returns
returns c = put_more c.put_byte-next.ensures (omega (arith, c.requires)) c.put_byte.ensures
