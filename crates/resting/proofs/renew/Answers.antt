-- `resting::renew` meets its contract: either the block goes on, or the margins are lowered and the rows sorted again, which changes no margin of the rules (`block_renewed`).
use mathlib.Core.Path.{◌∙◌}
use native.Mathlib.Nat.{one-mul}
use lib.Pow.{pow_pos, shl_exact}
use native.Mathlib.Omega.{arith}
use lib.ListN.{drop}
use Rattle.resting.proofs.KeepLaws.{kept_front}
use Rattle.resting.proofs.WalkLaws.{waiting_settleable, waiting_caps, block_sortable, block_renewed}
use Rattle.resting.proofs.renew.Goals as goal

pub settle-requires : goal.settle-requires
settle-requires c = waiting_settleable c.requires.waiting

pub keep_rising-live-requires : goal.keep_rising-live-requires
keep_rising-live-requires c = waiting_caps c.requires.waiting

pub find_near-count-requires : goal.find_near-count-requires
find_near-count-requires c = record { sortable = block_sortable c.requires.waiting c.settle.ensures (kept_front _ _ c.keep_rising-live.ensures _).0; near_len_bound = (c.requires.waiting.room, c.block_bits-bits.ensures) }

pub returns : goal.returns
returns c =
    let kept = kept_front _ _ c.keep_rising-live.ensures (drop c.args.block.live c.args.rising.now) in
    record {
      live_in_bounds = kept.1;
      renewed =
          block_renewed c.requires.waiting c.settle.ensures kept.0 (c.fill.ensures.after (λ y e. e)) c.find_near-count.auto.near c.find_near-count.ensures (pow_pos _) _
          (shl_exact {a = 1} 1 _ 64 (omega arith) (omega (arith, c.block_bits-bits.ensures)) ∙ one-mul _);
    }
