-- `columns::write::put_parts` meets its contract.
use mathlib.Core.Path.{sym, ◌∙◌}
use native.Mathlib.Omega.{arith}
use lib.ListN.{length, length-append}
use Rattle.text.specs.Fields.{feed}
use Rattle.text.proofs.PutLaws.{put_more, put_room}
use Rattle.types.specs.LineColumns.{columns_of}
use Rattle.columns.specs.ColumnText.{fields_ended, head_text}
use Rattle.columns.proofs.ColumnPut.{parts_text_lem, parts_sum, columns_long}
use Rattle.columns.proofs.write.put_parts.Goals as goal

pub put_head-next-requires : goal.put_head-next-requires
put_head-next-requires c = let wide = sym (columns_long c.args.first.now ∙ c.requires.0) in
    let total = parts_sum c.args.sep c.args.head (columns_of c.args.first.now) c.args.second.now c.args.values.now c.args.more.now c.requires.1 wide in
    omega (arith, c.requires.3, total)

pub put_fields-next-requires : goal.put_fields-next-requires
put_fields-next-requires c = let wide = sym (columns_long c.args.first.now ∙ c.requires.0) in
    let total = parts_sum c.args.sep c.args.head (columns_of c.args.first.now) c.args.second.now c.args.values.now c.args.more.now c.requires.1 wide in
    (c.requires.0, put_room c.put_head-next.ensures (length (fields_ended c.args.sep c.args.sep (columns_of c.args.first.now) c.args.values.now)) (omega (arith, c.requires.3, total)))

pub put_fields-requires : goal.put_fields-requires
put_fields-requires c = let wide = sym (columns_long c.args.first.now ∙ c.requires.0) in
    let total = parts_sum c.args.sep c.args.head (columns_of c.args.first.now) c.args.second.now c.args.values.now c.args.more.now c.requires.1 wide in
    (c.requires.2, put_room (put_more c.put_head-next.ensures (omega (arith, c.requires.3)) c.put_fields-next.ensures) (length (fields_ended c.args.sep feed (columns_of c.args.second.now) c.args.more.now)) (omega (arith, c.requires.3, total, length-append (head_text c.args.sep c.args.head) (fields_ended c.args.sep c.args.sep (columns_of c.args.first.now) c.args.values.now))))

pub returns : goal.returns
returns c = rw (parts_text_lem c.args.sep c.args.head (columns_of c.args.first.now) c.args.second.now c.args.values.now c.args.more.now c.requires.1 (sym (columns_long c.args.first.now ∙ c.requires.0))) (put_more (put_more c.put_head-next.ensures (omega (arith, c.requires.3)) c.put_fields-next.ensures) (omega (arith, c.requires.3)) c.put_fields.ensures)
