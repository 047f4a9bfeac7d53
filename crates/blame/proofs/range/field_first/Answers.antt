use mathlib.Core.Path.{sym, ap, ◌∙◌}
use Prim.Native.Nat.{ℕ, ◌+◌}
use native.Mathlib.Omega.{arith}
use borrow.Author.Tests.{eq-eqb, ne_eqb}
use Rattle.blame.proofs.RangeLaws.{passing_none, passing_here, passing_more, passing_all}
use Rattle.blame.proofs.range.field_first.Goals as goal
use Rattle.blame.proofs.range.field_first.Goals.{then-line-i, else-line-i}

pub loop-i-init : goal.loop-i-init
loop-i-init c = passing_none _ _ _

pub returns-then-left-eq0 : goal.returns-then-left-eq0
returns-then-left-eq0 c = passing_here _ _ _ _ _ c.loop-i.invariant c.if-left-eq0.true

pub loop-i-preserved : goal.loop-i-preserved
loop-i-preserved c = passing_more _ _ _ _ _ c.loop-i.invariant _ c.loop-i-test.true c.if-left-eq0.false
    (elim c.if-line-i.branch [ then-line-i w ↦ rw (eq-eqb _ _ w.if-line-i.true) w.left-is | else-line-i w ↦ rw (ne_eqb _ _ w.if-line-i.false) w.left-is ])

pub returns : goal.returns
returns c = ap (λ (x : ℕ). x + 1) (omega arith) ∙ passing_all _ _ _ _ _ c.loop-i.invariant c.loop-i-test.false
