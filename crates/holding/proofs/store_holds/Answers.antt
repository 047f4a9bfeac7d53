use mathlib.Core.Path.{ap, ◌∙◌}
use Prim.Native.Nat.{ℕ}
use native.Mathlib.Omega.{arith}
use Rattle.numbers.specs.Below.{at}
use Rattle.numbers.proofs.ListLaws.{filled_none, filled_more, filled_over}
use Rattle.holding.specs.Holding.{allowed, row_left}
use Rattle.holding.proofs.store_holds.Goals as goal

pub loop-i-init : goal.loop-i-init
loop-i-init c = filled_none _ _ _

pub factor-requires : goal.factor-requires
factor-requires c = (omega arith, c.requires.borders_in_bounds.0)

pub hold-requires : goal.hold-requires
hold-requires c = c.requires.by_index c.loop-i.i (omega arith)

pub loop-i-preserved : goal.loop-i-preserved
loop-i-preserved c = filled_more c.loop-i.invariant _ (omega arith) (omega (arith, c.requires.borders_in_bounds))
    (c.hold.ensures ∙ ap (λ (f : ℕ). row_left (at c.args.ns.now c.loop-i.i) (at c.args.states.now c.loop-i.i) (at c.args.margins.now c.loop-i.i) (allowed (at c.args.ns.now c.loop-i.i) (at c.args.margins.now c.loop-i.i) f)) c.factor.ensures)

pub returns : goal.returns
returns c = filled_over c.loop-i.invariant (omega arith)
