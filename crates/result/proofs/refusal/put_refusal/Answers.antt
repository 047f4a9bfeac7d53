-- `result::refusal::put_refusal` meets its contract: the letter, the three fields and the LF, one after another (`line-none`, `line-more`, `line-all`).
use mathlib.Core.List.{[], ◌∷◌}
use native.Mathlib.Omega.{arith}
use Rattle.text.specs.Written.{decimal}
use Rattle.text.proofs.PutLaws.{put_whole, line_none, line_more, line_all, room_first, room_more, room_last}
use Rattle.result.proofs.refusal.put_refusal.Goals as goal

pub put_byte-number_at-requires : goal.put_byte-number_at-requires
put_byte-number_at-requires c = room_first 69 (decimal c.args.number ∷ decimal c.args.place ∷ decimal c.args.byte ∷ []) (omega (arith, c.requires))

pub put_number_field-place_at-requires : goal.put_number_field-place_at-requires
put_number_field-place_at-requires c = room_more (line_none c.put_byte-number_at.ensures) (decimal c.args.number) (decimal c.args.place ∷ decimal c.args.byte ∷ []) (omega (arith, c.requires))

pub put_number_field-byte_at-requires : goal.put_number_field-byte_at-requires
put_number_field-byte_at-requires c = let letter = line_none c.put_byte-number_at.ensures in
    let number = line_more (omega arith) letter c.put_number_field-place_at.ensures in
    room_more number (decimal c.args.place) (decimal c.args.byte ∷ []) (omega (arith, c.requires))

pub put_number_field-feed_at-requires : goal.put_number_field-feed_at-requires
put_number_field-feed_at-requires c = let letter = line_none c.put_byte-number_at.ensures in
    let number = line_more (omega arith) letter c.put_number_field-place_at.ensures in
    let place = line_more (omega arith) number c.put_number_field-byte_at.ensures in
    room_more place (decimal c.args.byte) [] (omega (arith, c.requires))

pub put_byte-requires : goal.put_byte-requires
put_byte-requires c = let letter = line_none c.put_byte-number_at.ensures in
    let number = line_more (omega arith) letter c.put_number_field-place_at.ensures in
    let place = line_more (omega arith) number c.put_number_field-byte_at.ensures in
    let byte = line_more (omega arith) place c.put_number_field-feed_at.ensures in
    room_last byte (omega (arith, c.requires))

pub returns : goal.returns
returns c = let letter = line_none c.put_byte-number_at.ensures in
    let number = line_more (omega arith) letter c.put_number_field-place_at.ensures in
    let place = line_more (omega arith) number c.put_number_field-byte_at.ensures in
    let byte = line_more (omega arith) place c.put_number_field-feed_at.ensures in
    put_whole (line_all (omega arith) byte c.put_byte.ensures)
