use native.Mathlib.Omega.{arith}
use Rattle.walk.proofs.FlatLaws.{row_at}
use Rattle.walk.proofs.LoadLaws.{parting_none, part_fits, cap_fits, parting_more, parting_loss, parting_most}
use Rattle.walk.proofs.row_loads.Goals as goal

pub loop-b-init : goal.loop-b-init
loop-b-init c = parting_none _ _ _ _ _

pub overflow_mul-loss : goal.overflow_mul-loss
overflow_mul-loss c = omega (arith, part_fits c.requires.loadable c.loop-b.invariant (omega arith) _ (row_at _ c.row-factors.ensures.factors _ (c.requires.loadable.listed.inside _ (omega arith))))

pub overflow_add-loss : goal.overflow_add-loss
overflow_add-loss c = omega (arith, part_fits c.requires.loadable c.loop-b.invariant (omega arith) _ (row_at _ c.row-factors.ensures.factors _ (c.requires.loadable.listed.inside _ (omega arith))))

pub overflow_mul-factors : goal.overflow_mul-factors
overflow_mul-factors c = omega (arith, cap_fits c.requires.loadable c.loop-b.invariant (omega arith) _ (row_at _ c.row-factors.ensures.factors _ (c.requires.loadable.listed.inside _ (omega arith))))

pub loop-b-preserved : goal.loop-b-preserved
loop-b-preserved c = parting_more c.requires.loadable c.loop-b.invariant (omega arith) _ (row_at _ c.row-factors.ensures.factors _ (c.requires.loadable.listed.inside _ (omega arith))) _ c.max-most.ensures

pub returns : goal.returns
returns c = (parting_loss c.requires.loadable c.loop-b.invariant (omega arith), parting_most c.requires.loadable c.loop-b.invariant (omega arith))
