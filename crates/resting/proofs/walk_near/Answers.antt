use mathlib.Core.Path.{◌≡◌}
use Prim.Native.Nat.{◌+◌, ◌-◌, ◌<◌}
use native.Mathlib.Omega.{arith}
use lib.ListN.{length}
use lib.Seq.{length-take-le}
use Rattle.resting.proofs.WatchLaws.{near_front, near_beyond}
use Rattle.resting.proofs.WalkLaws.{walking_none, walk_step, walking_more, walking_all}
use Rattle.resting.proofs.walk_near.Goals as goal

pub loop-i-init : goal.loop-i-init
loop-i-init c = walking_none c.requires

pub walk_row-requires : goal.walk_row-requires
walk_row-requires c =
    let here : c.loop-i.i-index < c.args.count = omega (arith, length-take-le c.args.count c.args.near.now c.requires.waiting.watched.few) in
    walk_step c.requires c.loop-i.invariant (omega arith) _ (near_front c.args.near.now c.args.count c.loop-i.i-index here)

pub loop-i-preserved : goal.loop-i-preserved
loop-i-preserved c =
    let here : c.loop-i.i-index < c.args.count = omega (arith, length-take-le c.args.count c.args.near.now c.requires.waiting.watched.few) in
    walking_more c.requires c.loop-i.invariant (omega arith) _ (near_front c.args.near.now c.args.count c.loop-i.i-index here) _ c.walk_row.ensures

pub walk_row-requires-in-loop-i-2 : goal.walk_row-requires-in-loop-i-2
walk_row-requires-in-loop-i-2 c = walk_step c.requires c.loop-i-2.invariant (omega arith) _ (near_beyond c.args.near.now c.args.count c.loop-i-2.i (omega arith))

pub loop-i-2-preserved : goal.loop-i-2-preserved
loop-i-2-preserved c =
    let next : c.args.count + (c.loop-i-2.i + 1 - length c.args.near.now) ≡ c.args.count + (c.loop-i-2.i - length c.args.near.now) + 1 = omega arith in
    rw next (walking_more c.requires c.loop-i-2.invariant (omega arith) _ (near_beyond c.args.near.now c.args.count c.loop-i-2.i (omega arith)) _ c.walk_row-in-loop-i-2.ensures)

pub returns : goal.returns
returns c = walking_all c.requires c.loop-i-2.invariant (omega arith)
