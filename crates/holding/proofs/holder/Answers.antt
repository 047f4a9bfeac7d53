use mathlib.Core.Path.{◌∙◌}
use native.Mathlib.Omega.{arith}
use mir.Facts.{to_z_pos}
use mir.Syntax.{w64}
use Rattle.numbers.proofs.BelowLaws.{looked_none}
use Rattle.rounds.proofs.Loops.{ready_long}
use Rattle.holding.proofs.HoldLaws.{held_here, held_more, held_none}
use Rattle.holding.proofs.holder.Goals as goal

pub loop-i-init : goal.loop-i-init
loop-i-init c = looked_none _ _

pub bounds-ns-i : goal.bounds-ns-i
bounds-ns-i c = omega (arith, ready_long c.requires.ready)

pub factor-requires : goal.factor-requires
factor-requires c = (omega arith, c.requires.borders_in_bounds.0)

pub overflow_cast-result : goal.overflow_cast-result
overflow_cast-result c = record { sfits = omega (arith, c.requires.borders_in_bounds.1) }

pub returns-then-share-factor : goal.returns-then-share-factor
returns-then-share-factor c = to_z_pos w64 (omega (arith, c.requires.borders_in_bounds.1)) ∙ held_here c.requires.ready c.loop-i.invariant (omega arith) c.equal_share-share.ensures c.factor.ensures c.if-share-factor.true

pub loop-i-preserved : goal.loop-i-preserved
loop-i-preserved c = held_more c.requires.ready c.loop-i.invariant (omega arith) c.equal_share-share.ensures c.factor.ensures c.if-share-factor.false

pub returns : goal.returns
returns c = held_none _ _ _ c.loop-i.invariant (omega arith)
