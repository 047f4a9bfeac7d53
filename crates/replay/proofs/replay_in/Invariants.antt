-- `replay::replay_in` meets its contract. The invariant: k rounds are done, and the room is as long as there are borders.
use Prim.Native.Nat.{◌-◌}
use Rattle.walk.specs.Flat.{flat_of}
use Rattle.replay.proofs.ReplayLaws.{Replayed}
use Rattle.replay.proofs.replay_in.Given as goal

abbrev pub invariant-loop-k : goal.invariant-loop-k
invariant-loop-k l = Replayed (flat_of l.grid) l.initial.margins l.rounds l.margins l.rising l.raises l.k

abbrev pub decreases-loop-k : goal.decreases-loop-k
decreases-loop-k l = l.rounds - l.k
