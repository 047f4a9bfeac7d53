-- `text::put::put_byte` meets its contract: a store is one byte put (`put_byte`).
use mathlib.Core.Path.{refl}
use Rattle.text.proofs.PutLaws.{put_byte}
use Rattle.text.proofs.put.put_byte.Goals as goal

pub returns : goal.returns
returns c = record { after = refl; wrote = put_byte _ _ _ c.requires }
