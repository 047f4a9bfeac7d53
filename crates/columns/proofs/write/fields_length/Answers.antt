use mathlib.Core.Path.{◌≡◌}
use Prim.Native.Nat.{◌+◌, ◌≤◌}
use native.Mathlib.Omega.{arith}
use lib.ListN.{length}
use Rattle.numbers.proofs.IntLaws.{plain}
use Rattle.limits.specs.Limits.{bytes_most}
use Rattle.columns.proofs.ColumnPut.{text_at, counting_none, counting_within, counting_more, counting_all}
use Rattle.columns.proofs.write.fields_length.Goals as goal

counted : (c : goal.After-field_length) → c.field_length.result ≡ length (text_at c.args.columns.now c.args.values.now c.loop-k.k)
counted c = simp (plain, c.field_length-arg-1.given) at c.field_length.ensures

within : (c : goal.After-field_length) → c.loop-k.sum + (c.field_length.result + 1) ≤ bytes_most
within c = omega (arith, counting_within c.args.columns.now c.args.values.now c.loop-k.invariant c.requires.0 c.loop-k-test.true _ (counted c), c.requires.1)

pub loop-k-init : goal.loop-k-init
loop-k-init c = counting_none _ _

pub bounds-columns-k : goal.bounds-columns-k
bounds-columns-k c = omega (arith, c.loop-k.invariant)

pub offset_bounds-values-k : goal.offset_bounds-values-k
offset_bounds-values-k c = omega (arith, c.requires.0)

pub bounds-values-k : goal.bounds-values-k
bounds-values-k c = omega (arith, c.requires.0)

pub overflow_add-sum : goal.overflow_add-sum
overflow_add-sum c = omega (arith, within c)

pub overflow_add-sum-in-loop-k : goal.overflow_add-sum-in-loop-k
overflow_add-sum-in-loop-k c = omega (arith, within c)

pub loop-k-preserved : goal.loop-k-preserved
loop-k-preserved c = counting_more c.args.columns.now c.args.values.now c.loop-k.invariant c.requires.0 c.loop-k-test.true _ (counted c)

pub returns : goal.returns
returns c = counting_all c.args.columns.now c.args.values.now c.loop-k.invariant (omega arith)
