use mathlib.Core.Path.{◌≡◌, sym, ap, ◌∙◌}
use mathlib.Core.Bool.{Bool, true, not}
use native.Mathlib.Omega.{arith}
use lib.ListN.{take}
use lib.Seq.{take_all}
use Rattle.walk.specs.Flat.{flat_of}
use Rattle.resting.proofs.WalkLaws.{waiting_settleable}
use Rattle.roundloop.proofs.RoundLoop.{front_long, turn_few}
use Rattle.roundloop.proofs.TurnLaws.{past, Found, found_start, found_renewed, found_listed, found_some, found_none, found_turn, found_end, found_risable, found_walkable, found_next, found_less}
use Rattle.roundloop.proofs.do_rounds.Goals as goal
use Rattle.roundloop.proofs.do_rounds.Goals.{After-renew-block, Else-not-rises}

-- the block goes on, or a new one begins
renewed : (c : After-renew-block) → Found (flat_of c.args.grid.now) c.args.ns.now c.args.margins.now c.args.start c.args.near.now c.renew-block.new.margins c.loop-block.x c.loop-block.lasts c.renew-block.new.gained c.loop-block.caps (take c.renew-block.result.live c.renew-block.new.rising) c.renew-block.new.near c.renew-block.result.count c.renew-block.result.wait c.loop-block.done
renewed c = found_renewed c.loop-block.invariant.1 c.renew-block.ensures.renewed

-- past the test the round raises a border
past_test : (c : Else-not-rises) → c.rises.result ≡ true
past_test c = past _ _ (λ e. ap (λ (r : Bool). not r) e) c.if-not-rises.false-raw

pub begin-requires : goal.begin-requires
begin-requires c = record { ready = c.requires.startable.ready; rising_len = (c.requires.rising_len.0, c.requires.gained_len.1) }

pub loop-block-init : goal.loop-block-init
loop-block-init c =
    let long = c.begin.auto.rising ∙ c.requires.rising_len.0 in
    (omega (arith, long), found_start c.requires.startable c.requires.rising_len.1 _ c.requires.lasts_len (c.fill.ensures.after (λ y e. e)) _ c.requires.gained_len.0 (c.fill-2.ensures.after (λ y e. e)) (take_all _ _ (omega (arith, long)) ∙ c.begin.ensures.0) c.begin.ensures.1)

pub renew-block-requires : goal.renew-block-requires
renew-block-requires c = record { live_in_bounds = c.loop-block.invariant.0; waiting = c.loop-block.invariant.1.waiting }

pub rises-requires : goal.rises-requires
rises-requires c = found_listed (renewed (goal.at.rises-requires c).After-renew-block)

pub settle-requires : goal.settle-requires
settle-requires c = waiting_settleable c.renew-block.ensures.renewed.waiting

pub overflow_add-done : goal.overflow_add-done
overflow_add-done c =
    let u = renewed (goal.at.overflow_add-done c).After-renew-block in
    let h = found_some u c.rises.ensures (past_test (goal.at.overflow_add-done c).Else-not-rises) in
    omega (arith, turn_few (found_turn u c.requires.startable) (λ z. omega arith))

pub slice_bounds-x-end : goal.slice_bounds-x-end
slice_bounds-x-end c = omega (arith, c.requires.startable.borders, c.loop-block.invariant.1.head.exchanges)

pub slice_bounds-rise-end : goal.slice_bounds-rise-end
slice_bounds-rise-end c = sym (front_long (found_turn (renewed (goal.at.slice_bounds-rise-end c).After-renew-block) c.requires.startable))

pub rise-requires : goal.rise-requires
rise-requires c = found_risable (renewed (goal.at.rise-requires c).After-renew-block) c.requires.startable

pub walk_near-requires : goal.walk_near-requires
walk_near-requires c = found_walkable (renewed (goal.at.walk_near-requires c).After-renew-block) c.renew-block.ensures.renewed.some c.rise.ensures

pub loop-block-smaller : goal.loop-block-smaller
loop-block-smaller c =
    let u = renewed (goal.at.loop-block-smaller c).After-renew-block in
    let h = found_some u c.rises.ensures (past_test (goal.at.loop-block-smaller c).Else-not-rises) in
    found_less u c.renew-block.ensures.renewed.some c.rise.ensures c.requires.startable h c.renew-block.ensures.renewed.same

pub loop-block-preserved : goal.loop-block-preserved
loop-block-preserved c =
    let u = renewed (goal.at.loop-block-preserved c).After-renew-block in
    let h = found_some u c.rises.ensures (past_test (goal.at.loop-block-preserved c).Else-not-rises) in
    (c.renew-block.ensures.live_in_bounds, found_next u c.renew-block.ensures.renewed.some c.rise.ensures c.requires.startable h c.walk_near.ensures _ (omega (arith, c.renew-block.ensures.renewed.some)))

pub returns : goal.returns
returns c =
    let u = renewed (goal.at.returns c).After-renew-block in
    found_end u c.requires.startable (found_none u c.rises.ensures c.if-not-rises.true-raw) _ c.settle.ensures
