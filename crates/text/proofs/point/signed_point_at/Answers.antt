-- `text::point::signed_point_at` meets its contract: by its first byte it is one of the two cases of `signed_point_at`.
use mathlib.Core.Path.{◌≡◌, sym, ap, ◌∙◌}
use mathlib.Core.Bool.{true, false}
use native.Mathlib.Omega.{arith}
use lib.Dec.{eqb}
use lib.ListN.{get_or}
use Rattle.text.specs.Fields.{positive}
use Rattle.text.specs.Point.{negated}
use Rattle.text.proofs.FieldLaws.{dash_within}
use Rattle.text.proofs.PointLaws.{point_lt, signed_point_plus, signed_point_minus}
use Rattle.text.proofs.point.signed_point_at.Goals as goal

dash : (c : goal.Then-has_minus) → eqb (get_or c.args.line.now c.args.at 0) 45 ≡ true
dash c = sym c.has_minus.ensures ∙ c.if-has_minus.true

pub overflow_add-at : goal.overflow_add-at
overflow_add-at c = omega (arith, dash_within c.args.line.now c.args.at (dash c))

pub negated-requires : goal.negated-requires
negated-requires c = rw c.point_at.ensures (point_lt true c.args.k c.args.line.now _ c.args.stop c.requires)

pub returns-then-has_minus : goal.returns-then-has_minus
returns-then-has_minus c =
    let dash : eqb (get_or c.args.line.now c.args.at 0) 45 ≡ true = sym c.has_minus.ensures ∙ c.if-has_minus.true in
    c.negated.ensures ∙ ap negated c.point_at.ensures ∙ signed_point_minus c.args.k c.args.line.now c.args.at c.args.stop (dash)

pub plus-requires : goal.plus-requires
plus-requires c = rw c.point_at-2.ensures (point_lt false c.args.k c.args.line.now c.args.at c.args.stop c.requires)

pub returns : goal.returns
returns c = c.plus.ensures ∙ ap positive c.point_at-2.ensures ∙ signed_point_plus c.args.k c.args.line.now c.args.at c.args.stop (sym c.has_minus.ensures ∙ c.if-has_minus.false)
