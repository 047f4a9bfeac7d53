use mathlib.Core.Path.{◌≡◌}
use Prim.Native.Nat.{◌≤◌, ◌+◌}
use native.Mathlib.Omega.{arith}
use lib.ListN.{length}
use Rattle.numbers.proofs.BelowLaws.{summed_none, summed_more}
use Rattle.writing.specs.Writing.{border_text_at}
use Rattle.layout.proofs.SumLaws.{sum_within, sum_lines}
use Rattle.limits.specs.Limits.{bytes_most}
use Rattle.writing.proofs.length.borders_length.Goals as goal

counted : (c : goal.After-border_length-sum) → c.border_length-sum.result ≡ length (border_text_at c.args.b.now c.loop-i.i)
counted c = c.border_length-sum.ensures

pub loop-i-init : goal.loop-i-init
loop-i-init c = summed_none _ _

pub border_length-sum-requires : goal.border_length-sum-requires
border_length-sum-requires c =
    let within : c.loop-i.sum + length (border_text_at c.args.b.now c.loop-i.i) ≤ bytes_most = sum_within (border_text_at c.args.b.now) (length c.args.b.now) c.requires c.loop-i.invariant (omega arith) in
    omega (arith, within)

pub overflow_add-sum : goal.overflow_add-sum
overflow_add-sum c =
    let within : c.loop-i.sum + length (border_text_at c.args.b.now c.loop-i.i) ≤ bytes_most = sum_within (border_text_at c.args.b.now) (length c.args.b.now) c.requires c.loop-i.invariant (omega arith) in
    omega (arith, within, counted c)

pub loop-i-preserved : goal.loop-i-preserved
loop-i-preserved c = summed_more c.loop-i.invariant _ (omega arith) (counted c)

pub returns : goal.returns
returns c = sum_lines (border_text_at c.args.b.now) (length c.args.b.now) c.requires c.loop-i.invariant (omega arith)
