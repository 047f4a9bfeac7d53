use mathlib.Core.Path.{ap, ◌∙◌}
use Prim.Native.Nat.{ℕ, ◌/◌}
use native.Mathlib.Omega.{arith}
use Rattle.numbers.specs.Below.{at}
use Rattle.numbers.proofs.ListLaws.{filled_none, filled_rest, filled_more, filled_all}
use Rattle.walk.proofs.stopping.share_out.Goals as goal

pub loop-i-init : goal.loop-i-init
loop-i-init c = filled_none _ _ _

pub loop-i-preserved : goal.loop-i-preserved
loop-i-preserved c = let margin = at c.args.margins.now c.loop-i.i in
    filled_more c.loop-i.invariant _ (omega arith) (omega arith)
    (c.equal_share.ensures ∙ ap (λ (n : ℕ). margin / n) (filled_rest c.loop-i.invariant 0 c.loop-i-test.true))

pub returns : goal.returns
returns c = filled_all c.loop-i.invariant (omega arith) c.requires
