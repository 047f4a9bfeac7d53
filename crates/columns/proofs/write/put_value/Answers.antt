-- `columns::write::put_value` meets its contract: each arm is a column.
use mathlib.Core.Path.{◌≡◌, ap}
use native.Mathlib.Omega.{arith}
use lib.ListN.{length}
use mir.Facts.{to_z-of_z}
use Rattle.types.specs.LineColumns.{column_of}
use Rattle.text.specs.Written.{decimal_ℤ}
use Rattle.columns.specs.ColumnText.{field_text}
use Rattle.columns.proofs.ColumnPut.{value_share, value_power, value_flow, value_factor, value_plain}
use Rattle.columns.proofs.write.put_value.Goals as goal

pub put_share-requires : goal.put_share-requires
put_share-requires c = simp (to_z-of_z, c.ranges.z) (omega (arith, c.requires, ap length (value_share c.args.column c.args.z c.in-114.is)))

pub put_signed_point-requires : goal.put_signed_point-requires
put_signed_point-requires c = simp (to_z-of_z, c.ranges.z) (omega (arith, c.requires, ap length (value_power c.args.column c.args.z c.in-112.is)))

pub put_signed_point-requires-in-113 : goal.put_signed_point-requires-in-113
put_signed_point-requires-in-113 c = simp (to_z-of_z, c.ranges.z) (omega (arith, c.requires, ap length (value_flow c.args.column c.args.z c.in-113.is)))

pub put_signed_point-requires-in-102 : goal.put_signed_point-requires-in-102
put_signed_point-requires-in-102 c = simp (to_z-of_z, c.ranges.z) (omega (arith, c.requires, ap length (value_factor c.args.column c.args.z c.in-102.is)))

pub put_signed-requires : goal.put_signed-requires
put_signed-requires c = let plain : field_text (column_of c.args.column) c.args.z ≡ decimal_ℤ c.args.z = value_plain c.args.column c.args.z c.in_default.in_default-own.rest.0.0.0.1 c.in_default.in_default-own.rest.0.0.1 c.in_default.in_default-own.rest.0.1 c.in_default.in_default-own.rest.1 in
    simp (to_z-of_z, c.ranges.z) (omega (arith, c.requires, ap length (plain)))

pub returns-in-114 : goal.returns-in-114
returns-in-114 c = rw (value_share c.args.column c.args.z c.in-114.is) (simp (to_z-of_z, c.ranges.z) at c.put_share.ensures)

pub returns-in-112 : goal.returns-in-112
returns-in-112 c = rw (value_power c.args.column c.args.z c.in-112.is) (simp (to_z-of_z, c.ranges.z) at c.put_signed_point.ensures)

pub returns-in-113 : goal.returns-in-113
returns-in-113 c = rw (value_flow c.args.column c.args.z c.in-113.is) (simp (to_z-of_z, c.ranges.z) at c.put_signed_point-in-113.ensures)

pub returns-in-102 : goal.returns-in-102
returns-in-102 c = rw (value_factor c.args.column c.args.z c.in-102.is) (simp (to_z-of_z, c.ranges.z) at c.put_signed_point-in-102.ensures)

pub returns-in_default : goal.returns-in_default
returns-in_default c = let plain : field_text (column_of c.args.column) c.args.z ≡ decimal_ℤ c.args.z = value_plain c.args.column c.args.z c.in_default.in_default-own.rest.0.0.0.1 c.in_default.in_default-own.rest.0.0.1 c.in_default.in_default-own.rest.0.1 c.in_default.in_default-own.rest.1 in
    rw (plain) (simp (to_z-of_z, c.ranges.z) at c.put_signed.ensures)
