-- `tidy::put::zeros` meets its contract.
use mathlib.Core.Path.{◌≡◌}
use Prim.Native.Nat.{◌-◌}
use Rattle.std.proofs.Common.{rules}
use lib.ListN.{replicate}
use Rattle.tidy.proofs.ClipLaws.{clip_zeros}
use Rattle.tidy.proofs.put.zeros.Goals as goal

pub returns : goal.returns
returns c = let e : c.fill.new.self ≡ replicate (c.min-until.result - c.min-from.result) 48 = search rules in
    clip_zeros c.args.n c.args.out.now c.fill.new.self c.args.at c.min-from.result c.min-until.result c.min-from.ensures c.min-until.ensures e
