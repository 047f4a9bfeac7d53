use mathlib.Core.Path.{ap₂}
use native.Mathlib.Omega.{arith}
use lib.IntN.{ℤ}
use mathlib.Core.List.{[], ◌∷◌}
use mir.Facts.{to_z_pos}
use mir.Syntax.{w64}
use Rattle.numbers.proofs.ListLaws.{filled_none, filled_more, filled_over}
use Rattle.holding.proofs.store_ends.Goals as goal

pub loop-c-init : goal.loop-c-init
loop-c-init c = filled_none _ _ _

pub overflow_cast-out : goal.overflow_cast-out
overflow_cast-out c = record { sfits = (c.requires.by_index c.loop-c.c (omega arith)).0 }

pub overflow_cast-out-in-loop-c : goal.overflow_cast-out-in-loop-c
overflow_cast-out-in-loop-c c = record { sfits = (c.requires.by_index c.loop-c.c (omega arith)).1 }

pub loop-c-preserved : goal.loop-c-preserved
loop-c-preserved c = filled_more c.loop-c.invariant _ (omega arith) (omega (arith, c.requires.to_len)) (ap₂ (λ (x y : ℤ). x ∷ y ∷ []) (to_z_pos w64 (c.requires.by_index c.loop-c.c (omega arith)).0) (to_z_pos w64 (c.requires.by_index c.loop-c.c (omega arith)).1))

pub returns : goal.returns
returns c = filled_over c.loop-c.invariant (omega arith)
