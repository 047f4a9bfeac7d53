-- `text::point::point_at` meets its contract: by the number before the point it is one of the three cases of `point_at`.
use mathlib.Core.Path.{sym, ap, ◌∙◌}
use mathlib.Core.Path.{◌≡◌}
use native.Mathlib.Omega.{arith}
use Rattle.text.specs.Fields.{number_at}
use Rattle.text.specs.Point.{point}
use Rattle.text.proofs.PointLaws.{bad_after, point_bad, whole_after, point_long, point_goes, whole_small}
use Rattle.text.proofs.point.point_at.Goals as goal
use Rattle.std.specs.Prelude.{Ok, Err}

pub overflow_sub-most : goal.overflow_sub-most
overflow_sub-most c = omega (arith, c.requires)

pub overflow_sub-next : goal.overflow_sub-next
overflow_sub-next c = omega (arith, (whole_after c.args.minus c.args.k c.args.line.now c.args.at c.args.stop _ _ (sym c.number_at.ensures ∙ c.in-Ok.is)).0)

pub decimals_at-requires : goal.decimals_at-requires
decimals_at-requires c =
    let whole : number_at c.args.line.now c.args.at point ≡ Ok (c.in-Ok.v, c.in-Ok.next) = sym c.number_at.ensures ∙ c.in-Ok.is in
    let w = whole_after c.args.minus c.args.k c.args.line.now c.args.at c.args.stop _ _ whole in
    (c.requires, whole_small c.args.minus c.args.k c.args.line.now c.args.at c.args.stop _ _ whole c.if-next-at.true, omega (arith, w.0), w.1)

pub returns-in-Ok : goal.returns-in-Ok
returns-in-Ok c = c.decimals_at.ensures ∙ point_goes c.args.minus c.args.k c.args.line.now c.args.at c.args.stop _ _ (sym c.number_at.ensures ∙ c.in-Ok.is) c.if-next-at.true

pub overflow_add-result : goal.overflow_add-result
overflow_add-result c = omega (arith, (whole_after c.args.minus c.args.k c.args.line.now c.args.at c.args.stop _ _ (sym c.number_at.ensures ∙ c.in-Ok.is)).1)

pub returns-in-Ok-2 : goal.returns-in-Ok-2
returns-in-Ok-2 c = point_long c.args.minus c.args.k c.args.line.now c.args.at c.args.stop _ _ (sym c.number_at.ensures ∙ c.in-Ok.is) c.if-next-at.false

pub overflow_sub-place : goal.overflow_sub-place
overflow_sub-place c = bad_after c.args.line.now c.args.at point _ (sym c.number_at.ensures ∙ c.in-Err.is)

pub returns-in-Err : goal.returns-in-Err
returns-in-Err c =
    let none : number_at c.args.line.now c.args.at point ≡ Err c.in-Err.place = sym c.number_at.ensures ∙ c.in-Err.is in
    ap Err (omega (arith, c.min.ensures, bad_after c.args.line.now c.args.at point _ none)) ∙ point_bad c.args.minus c.args.k c.args.line.now c.args.at c.args.stop _ none
