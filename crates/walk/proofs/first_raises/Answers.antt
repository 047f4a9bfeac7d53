use native.Mathlib.Omega.{arith}
use Rattle.rounds.proofs.Loops.{ready_long}
use Rattle.walk.proofs.ListedLaws.{listed_all}
use Rattle.walk.proofs.CapLaws.{capped_none, capped_by, capped_rows}
use Rattle.walk.proofs.first_raises.Goals as goal

pub loop-i-init : goal.loop-i-init
loop-i-init c = capped_none _ _ _ _ _ c.requires.caps_len c.requires.caps

pub bounds-ns-i : goal.bounds-ns-i
bounds-ns-i c = omega (arith, ready_long c.requires.ready)

pub lower_caps-requires : goal.lower_caps-requires
lower_caps-requires c = record { row_in_bounds = omega arith; listed = listed_all _ _ _ c.requires.rising_value; caps_len = c.loop-i.invariant.long }

pub loop-i-preserved : goal.loop-i-preserved
loop-i-preserved c = capped_by c.loop-i.invariant c.requires.ready (omega arith) _ c.equal_share-share.ensures _ c.lower_caps.ensures

pub returns : goal.returns
returns c = capped_rows c.loop-i.invariant (omega arith)
