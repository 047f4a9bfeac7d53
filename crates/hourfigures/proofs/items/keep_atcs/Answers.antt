use mathlib.Core.Path.{sym, ◌∙◌}
use native.Mathlib.Omega.{arith}
use Rattle.numbers.proofs.IntLaws.{plain}
use Rattle.hourfigures.proofs.ItemLaws.{storing_none, storing_more, storing_all, atcs_long, atc_at_lem}
use Rattle.hourfigures.proofs.items.keep_atcs.Goals as goal

pub loop-i-init : goal.loop-i-init
loop-i-init c = storing_none _ _ _

pub overflow_add-atcs : goal.overflow_add-atcs
overflow_add-atcs c = omega (arith, c.requires.0, c.requires.1)

pub offset_bounds-atcs-place : goal.offset_bounds-atcs-place
offset_bounds-atcs-place c = omega (arith, c.requires.0, c.requires.1)

pub bounds-atcs-place : goal.bounds-atcs-place
bounds-atcs-place c = omega (arith, c.requires.0, c.requires.1, c.loop-i.invariant.as_long)

pub loop-i-preserved : goal.loop-i-preserved
loop-i-preserved c = storing_more c.loop-i.invariant _ (omega (arith, atcs_long c.args.atc.now, c.requires.0, c.requires.1))
    (omega (arith, atcs_long c.args.atc.now))
    (rw (plain _ c.magnitude-arg-1.given) at c.magnitude.ensures ∙ sym (atc_at_lem c.args.atc.now _ (omega arith)))

pub shape_of-atcs : goal.shape_of-atcs
shape_of-atcs c = c.loop-i.invariant.as_long

pub returns : goal.returns
returns c = storing_all c.loop-i.invariant (omega (arith, atcs_long c.args.atc.now))
