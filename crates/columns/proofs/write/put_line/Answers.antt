-- `columns::write::put_line` meets its contract.
use native.Mathlib.Omega.{arith}
use lib.ListN.{length}
use Rattle.text.specs.Fields.{feed}
use Rattle.text.proofs.PutLaws.{put_more, put_room}
use Rattle.types.specs.LineColumns.{columns_of}
use Rattle.columns.specs.ColumnText.{fields_ended, columns_text}
use Rattle.columns.proofs.ColumnPut.{line_sum}
use Rattle.columns.proofs.write.put_line.Goals as goal

pub put_head-next-requires : goal.put_head-next-requires
put_head-next-requires c = omega (arith, c.requires.1, line_sum c.args.sep c.args.head (columns_of c.args.columns.now) c.args.values.now)

pub put_fields-requires : goal.put_fields-requires
put_fields-requires c = (c.requires.0, put_room c.put_head-next.ensures (length (fields_ended c.args.sep feed (columns_of c.args.columns.now) c.args.values.now)) (omega (arith, c.requires.1, line_sum c.args.sep c.args.head (columns_of c.args.columns.now) c.args.values.now)))

pub returns : goal.returns
unfolding columns_text
returns c = put_more c.put_head-next.ensures (omega (arith, c.requires.1)) c.put_fields.ensures
