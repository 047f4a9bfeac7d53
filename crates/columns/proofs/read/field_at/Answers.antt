-- `columns::read::field_at` meets its contract: each arm is a column.
use mathlib.Core.Path.{ap, ◌∙◌}
use mathlib.Core.Bool.{false}
use borrow.Author.Tests.{ne_eqb}
use lib.Dec.{lit<}
use Rattle.text.specs.Fields.{positive}
use Rattle.text.proofs.FieldLaws.{value_lt}
use Rattle.text.proofs.PointLaws.{point_lt}
use Rattle.columns.specs.Columns.{field_at}
use Rattle.columns.proofs.read.field_at.Goals as goal

pub point_at-requires : goal.point_at-requires
point_at-requires c = lit< tt

pub plus-requires : goal.plus-requires
plus-requires c = rw c.point_at.ensures (point_lt false 3 _ _ _ (lit< tt))

pub signed_point_at-requires : goal.signed_point_at-requires
signed_point_at-requires c = lit< tt

pub signed_point_at-requires-in-102 : goal.signed_point_at-requires-in-102
signed_point_at-requires-in-102 c = lit< tt

pub plus-requires-in_default : goal.plus-requires-in_default
plus-requires-in_default c = rw c.number_at.ensures (value_lt _ _ _)

pub returns-in-114 : goal.returns-in-114
unfolding field_at
returns-in-114 c = rw c.in-114.is c.share_at.ensures

pub returns-in-115 : goal.returns-in-115
unfolding field_at
returns-in-115 c = rw c.in-115.is c.signed_at.ensures

pub returns-in-112 : goal.returns-in-112
unfolding field_at
returns-in-112 c = rw c.in-112.is (c.plus.ensures ∙ ap positive c.point_at.ensures)

pub returns-in-113 : goal.returns-in-113
unfolding field_at
returns-in-113 c = rw c.in-113.is c.signed_point_at.ensures

pub returns-in-102 : goal.returns-in-102
unfolding field_at
returns-in-102 c = rw c.in-102.is c.signed_point_at-in-102.ensures

pub returns-in_default : goal.returns-in_default
unfolding field_at
returns-in_default c = rw (ne_eqb c.args.column 114 c.in_default.in_default-own.rest.0.0.0.0.1, ne_eqb c.args.column 115 c.in_default.in_default-own.rest.0.0.0.1, ne_eqb c.args.column 112 c.in_default.in_default-own.rest.0.0.1, ne_eqb c.args.column 113 c.in_default.in_default-own.rest.0.1, ne_eqb c.args.column 102 c.in_default.in_default-own.rest.1)
    (c.plus-in_default.ensures ∙ ap positive c.number_at.ensures)
