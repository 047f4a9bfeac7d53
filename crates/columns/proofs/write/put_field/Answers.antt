-- `columns::write::put_field` meets its contract.
use mathlib.Core.List.{[], ◌∷◌}
use native.Mathlib.Omega.{arith}
use lib.ListN.{length-append}
use mir.Facts.{to_z-of_z}
use Rattle.text.proofs.PutLaws.{put_more, put_room}
use Rattle.types.specs.LineColumns.{column_of}
use Rattle.columns.specs.ColumnText.{field_text}
use Rattle.columns.proofs.write.put_field.Goals as goal

pub put_value-next-requires : goal.put_value-next-requires
put_value-next-requires c = simp (to_z-of_z, c.ranges.z) (omega (arith, c.requires, length-append (field_text (column_of c.args.column) c.args.z) (c.args.stop ∷ [])))

pub put_byte-requires : goal.put_byte-requires
put_byte-requires c = omega (arith, put_room (simp (to_z-of_z, c.ranges.z) at c.put_value-next.ensures) 1 (omega (arith, c.requires, length-append (field_text (column_of c.args.column) c.args.z) (c.args.stop ∷ []))))

pub returns : goal.returns
returns c = put_more (simp (to_z-of_z, c.ranges.z) at c.put_value-next.ensures) (omega (arith, c.requires)) c.put_byte.ensures
