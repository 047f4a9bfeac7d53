use mathlib.Core.Path.{◌≡◌}
use Prim.Native.Char.{code}
use Prim.Native.Nat.{◌≤◌, ◌+◌}
use native.Mathlib.Omega.{arith}
use lib.ListN.{length}
use Rattle.numbers.proofs.BelowLaws.{summed_none, summed_more}
use Rattle.numbers.proofs.IntLaws.{plain}
use Rattle.writing.specs.Writing.{position_text_at}
use Rattle.layout.proofs.SumLaws.{sum_within, sum_lines}
use Rattle.limits.specs.Limits.{bytes_most}
use Rattle.writing.proofs.length.zones_length.Goals as goal

counted : (c : goal.After-zone_length-sum) → c.zone_length-sum.result ≡ length (position_text_at (code "Z") c.args.z.now c.loop-i.i)
counted c = simp (plain, c.zone_length-arg-1.given) at c.zone_length-sum.ensures

pub loop-i-init : goal.loop-i-init
loop-i-init c = summed_none _ _

pub zone_length-sum-requires : goal.zone_length-sum-requires
zone_length-sum-requires c =
    let within : c.loop-i.sum + length (position_text_at (code "Z") c.args.z.now c.loop-i.i) ≤ bytes_most = sum_within (position_text_at (code "Z") c.args.z.now) (length c.args.z.now) c.requires c.loop-i.invariant (omega arith) in
    simp (plain, c.zone_length-arg-1.given) (omega (arith, within))

pub overflow_add-sum : goal.overflow_add-sum
overflow_add-sum c =
    let within : c.loop-i.sum + length (position_text_at (code "Z") c.args.z.now c.loop-i.i) ≤ bytes_most = sum_within (position_text_at (code "Z") c.args.z.now) (length c.args.z.now) c.requires c.loop-i.invariant (omega arith) in
    omega (arith, within, counted c)

pub loop-i-preserved : goal.loop-i-preserved
loop-i-preserved c = summed_more c.loop-i.invariant _ (omega arith) (counted c)

pub returns : goal.returns
returns c = sum_lines (position_text_at (code "Z") c.args.z.now) (length c.args.z.now) c.requires c.loop-i.invariant (omega arith)
