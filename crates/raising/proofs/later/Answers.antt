-- `raising::later` meets its contract, by its one test.
use mathlib.Core.Path.{sym, ap}
use Prim.Native.Nat.{ℕ}
use native.Mathlib.Omega.{arith}
use Rattle.numbers.specs.Below.{if_zero}
use Rattle.numbers.proofs.BelowLaws.{if_zero_pos}
use Rattle.raising.proofs.later.Goals as goal

pub returns-then-raise-eq0 : goal.returns-then-raise-eq0
unfolding if_zero
returns-then-raise-eq0 c = sym (ap (λ (v : ℕ). if_zero v c.args.last c.args.round) c.if-raise-eq0.true)

pub returns-else-raise-eq0 : goal.returns-else-raise-eq0
returns-else-raise-eq0 c = sym (if_zero_pos c.args.raise c.args.last c.args.round (omega (arith, c.if-raise-eq0.false)))
