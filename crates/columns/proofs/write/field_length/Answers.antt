-- `columns::write::field_length` meets its contract: each arm is a column.
use mathlib.Core.Path.{sym, ap, ◌∙◌}
use lib.Dec.{lit<}
use lib.ListN.{length}
use mir.Facts.{to_z-of_z}
use Rattle.columns.proofs.ColumnPut.{value_share, value_power, value_flow, value_factor, value_plain}
use Rattle.columns.proofs.write.field_length.Goals as goal

pub signed_point_length-requires : goal.signed_point_length-requires
signed_point_length-requires c = lit< tt

pub signed_point_length-requires-in-113 : goal.signed_point_length-requires-in-113
signed_point_length-requires-in-113 c = lit< tt

pub signed_point_length-requires-in-102 : goal.signed_point_length-requires-in-102
signed_point_length-requires-in-102 c = lit< tt

pub returns-in-114 : goal.returns-in-114
returns-in-114 c = simp (to_z-of_z, c.ranges.z) at c.share_length.ensures ∙ sym (ap length (value_share c.args.column c.args.z c.in-114.is))

pub returns-in-112 : goal.returns-in-112
returns-in-112 c = simp (to_z-of_z, c.ranges.z) at c.signed_point_length.ensures ∙ sym (ap length (value_power c.args.column c.args.z c.in-112.is))

pub returns-in-113 : goal.returns-in-113
returns-in-113 c = simp (to_z-of_z, c.ranges.z) at c.signed_point_length-in-113.ensures ∙ sym (ap length (value_flow c.args.column c.args.z c.in-113.is))

pub returns-in-102 : goal.returns-in-102
returns-in-102 c = simp (to_z-of_z, c.ranges.z) at c.signed_point_length-in-102.ensures ∙ sym (ap length (value_factor c.args.column c.args.z c.in-102.is))

pub returns-in_default : goal.returns-in_default
returns-in_default c = simp (to_z-of_z, c.ranges.z) at c.signed_length.ensures ∙ sym (ap length (value_plain c.args.column c.args.z c.in_default.in_default-own.rest.0.0.0.1 c.in_default.in_default-own.rest.0.0.1 c.in_default.in_default-own.rest.0.1 c.in_default.in_default-own.rest.1))
