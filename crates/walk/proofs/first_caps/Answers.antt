use native.Mathlib.Omega.{arith}
use Rattle.walk.proofs.CapLaws.{first_cap, first_caps_more}
use Rattle.walk.proofs.first_caps.Goals as goal

pub loop-b-preserved : goal.loop-b-preserved
loop-b-preserved c = first_caps_more c.loop-b.invariant (omega (arith, c.requires.caps_len)) _ (first_cap c.first_cap.ensures)
