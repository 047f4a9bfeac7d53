-- `walk::grid::equal_share` meets its contract: the share of 0 borders is 0, as the definition's division has it.
use mathlib.Core.Path.{sym, ap, ◌∙◌}
use Prim.Native.Nat.{ℕ, ◌/◌}
use native.Mathlib.Nat.{div-zero}
use Rattle.walk.proofs.grid.equal_share.Goals as goal

pub returns-then-n-eq0 : goal.returns-then-n-eq0
returns-then-n-eq0 c = sym (ap (λ (k : ℕ). c.args.margin / k) c.if-n-eq0.true ∙ div-zero c.args.margin)
