-- `result::records::put_rounds` meets its contract: the letter, the number and the LF, one after another (`line-none`, `line-more`, `line-all`).
use mathlib.Core.List.{[], ◌∷◌}
use native.Mathlib.Omega.{arith}
use Rattle.text.specs.Written.{decimal}
use Rattle.text.proofs.PutLaws.{line_none, line_more, line_all, room_first, room_more, room_last}
use Rattle.result.proofs.records.put_rounds.Goals as goal

pub put_byte-rounds_at-requires : goal.put_byte-rounds_at-requires
put_byte-rounds_at-requires c = room_first 82 (decimal c.args.rounds ∷ []) c.requires

pub put_number_field-feed_at-requires : goal.put_number_field-feed_at-requires
put_number_field-feed_at-requires c = room_more (line_none c.put_byte-rounds_at.ensures) _ [] c.requires

pub put_byte-requires : goal.put_byte-requires
put_byte-requires c = let letter = line_none c.put_byte-rounds_at.ensures in
    room_last (line_more (omega (arith, c.requires)) letter c.put_number_field-feed_at.ensures) c.requires

pub returns : goal.returns
returns c = let letter = line_none c.put_byte-rounds_at.ensures in
    let number = line_more (omega (arith, c.requires)) letter c.put_number_field-feed_at.ensures in
    line_all (omega (arith, c.requires)) number c.put_byte.ensures
