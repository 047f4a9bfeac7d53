-- `corners::corner_count` meets its contract: 2 ^ 12 is far below where a shift loses bits.
use mathlib.Core.Path.{◌∙◌}
use native.Mathlib.Nat.{one-mul}
use native.Mathlib.Omega.{arith}
use lib.Pow.{shl_exact}
use Rattle.corners.proofs.corner_count.Goals as goal

pub returns : goal.returns
returns c = shl_exact {a = 1} 1 c.args.borders 64 (omega arith) (omega (arith, c.requires)) ∙ one-mul _
