-- `holding::allow` meets its contract: a factor of 0 allows all, and a share divided by p fits, since the margin does.
use mathlib.Core.Path.{refl, ap, ◌∙◌}
use Prim.Native.Nat.{ℕ, ◌/◌}
use native.Mathlib.Nat.{div-le_self}
use native.Mathlib.Omega.{arith}
use borrow.Author.Tests.{lt-ltb, le-ltb}
use lib.IntN.{pos}
use mir.Facts.{to_z_pos}
use mir.Syntax.{w64}
use Rattle.holding.proofs.allow.Goals as goal

pub returns-then-f-eq0 : goal.returns-then-f-eq0
returns-then-f-eq0 c = rw (le-ltb 0 c.args.f (omega arith)) refl

pub overflow_cast-result : goal.overflow_cast-result
overflow_cast-result c = record { sfits = omega (arith, c.requires, c.equal_share.ensures, div-le_self c.args.margin c.args.n, div-le_self c.equal_share.result c.args.f) }

pub returns : goal.returns
returns c = rw (lt-ltb 0 c.args.f (omega arith)) (to_z_pos w64 (omega (arith, c.requires, c.equal_share.ensures, div-le_self c.args.margin c.args.n, div-le_self c.equal_share.result c.args.f)) ∙ ap (λ (s : ℕ). pos (s / c.args.f)) c.equal_share.ensures)
