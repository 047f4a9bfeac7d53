use native.Mathlib.Omega.{arith}
use Rattle.replay.proofs.ReplayLaws.{replayed_none, replayed_ready, round_settles, replayed_more, replayed_all}
use Rattle.replay.proofs.replay_in.Goals as goal

pub loop-k-init : goal.loop-k-init
loop-k-init c = replayed_none _ _ _ _ _ c.requires.ready.margins c.requires.rising_len.0 c.requires.rising_len.1

pub begin-requires : goal.begin-requires
begin-requires c = record { ready = replayed_ready c.loop-k.invariant c.requires.ready; rising_len = (c.loop-k.invariant.places, c.loop-k.invariant.room) }

pub settle-requires : goal.settle-requires
settle-requires c = round_settles c.loop-k.invariant c.begin.ensures.0 c.begin.ensures.1

pub loop-k-preserved : goal.loop-k-preserved
loop-k-preserved c = replayed_more c.loop-k.invariant c.begin.ensures.0 c.begin.ensures.1 (omega arith) c.settle.ensures

pub returns : goal.returns
returns c = replayed_all c.loop-k.invariant (omega arith)
