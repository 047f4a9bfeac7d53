-- `columns::write::put_index` meets its contract.
use native.Mathlib.Omega.{arith}
use Rattle.text.proofs.PutLaws.{put_more, put_room}
use Rattle.columns.specs.ColumnText.{index_text}
use Rattle.columns.proofs.ColumnPut.{index_long}
use Rattle.columns.proofs.write.put_index.Goals as goal

pub put_number-next-requires : goal.put_number-next-requires
put_number-next-requires c = omega (arith, c.requires, index_long c.args.sep c.args.i)

pub put_byte-requires : goal.put_byte-requires
put_byte-requires c = omega (arith, put_room c.put_number-next.ensures 1 (omega (arith, c.requires, index_long c.args.sep c.args.i)))

pub returns : goal.returns
unfolding index_text
returns c = put_more c.put_number-next.ensures (omega (arith, c.requires)) c.put_byte.ensures
