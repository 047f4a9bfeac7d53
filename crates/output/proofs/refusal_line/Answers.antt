-- `output::refusal_line` meets its contract: the law `text-printed`, with room for the longest, and the line of the three numbers is the refusal's (`refusal_as`).
use native.Mathlib.Omega.{arith}
use Rattle.result.proofs.RecordsLaws.{refusal_as}
use Rattle.output.proofs.BufferLaws.{text_printed, printed_as}
use Rattle.output.proofs.refusal_line.Goals as goal

pub returns : goal.returns
returns c = printed_as (refusal_as c.args.w c.number.ensures c.place.ensures c.byte.ensures) (text_printed _ _ _ c.write_refusal.result c.write_refusal.ensures.0 (omega (arith, c.write_refusal.ensures.1, c.requires)) _ c.bytes_of.ensures)
