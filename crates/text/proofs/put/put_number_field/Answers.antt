-- `text::put::put_number_field` meets its contract: a tab, and then the number (`put-more`).
use native.Mathlib.Omega.{arith}
use Rattle.text.proofs.PutLaws.{put_more}
use Rattle.text.proofs.put.put_number_field.Goals as goal

pub returns : goal.returns
returns c = put_more c.put_byte-first.ensures (omega (arith, c.requires)) c.put_number.ensures
