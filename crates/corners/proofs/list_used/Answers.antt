use mathlib.Core.Path.{refl}
use Prim.Native.Nat.{◌-◌}
use native.Mathlib.Omega.{arith}
use lib.IntN.{ℤ, ◌+ℤ◌}
use mir.Facts.{to_z-of_z}
use mir.Syntax.{w64}
use mir.Val.{SFits}
use Rattle.numbers.specs.Ints.{Within}
use Rattle.numbers.proofs.IntLaws.{within_fits, within_add}
use Rattle.types.specs.Ranges.{at_ℤ}
use Rattle.cornerrules.specs.Listed.{corner_flow_most}
use Rattle.cornerrules.proofs.ListedLaws.{using_none, using_within, using_more, using_all}
use Rattle.corners.proofs.list_used.Goals as goal

abbrev read : (c : goal.After-out-1) → ℤ
read c = at_ℤ c.loop-k.out (c.loop-k.k - c.args.count)

read-in : (c : goal.After-out-1) → Within corner_flow_most (read c)
read-in c = using_within _ _ _ c.requires.count_in_bounds c.loop-k.invariant c.requires.all_within (omega arith)

read_fits : (c : goal.After-out-1) → SFits w64 (read c)
read_fits c = within_fits (read-in c) tt

sum_fits : (c : goal.After-out-1) → SFits w64 ((read c) +ℤ c.args.part)
sum_fits c = within_fits (within_add (read-in c) c.requires.within) tt

pub loop-k-init : goal.loop-k-init
loop-k-init c = using_none _ _ _ c.requires.count_in_bounds

pub overflow_sub-out : goal.overflow_sub-out
overflow_sub-out c = c.loop-k.invariant.low

pub offset_bounds-out-k : goal.offset_bounds-out-k
offset_bounds-out-k c = omega (arith, c.loop-k.invariant.so_far.as_long)

pub slice_copy_out-out : goal.slice_copy_out-out
slice_copy_out-out c = omega (arith, c.loop-k.invariant.so_far.as_long, c.requires.count_in_bounds)

pub overflow_add-out : goal.overflow_add-out
overflow_add-out c = simp (to_z-of_z, read_fits c, c.ranges.part) (sum_fits c)

pub offset_bounds-out-k-in-loop-k : goal.offset_bounds-out-k-in-loop-k
offset_bounds-out-k-in-loop-k c = omega (arith, c.loop-k.invariant.so_far.as_long)

pub bounds-out-k : goal.bounds-out-k
bounds-out-k c = omega (arith, c.loop-k.invariant.so_far.as_long, c.requires.count_in_bounds)

pub loop-k-preserved : goal.loop-k-preserved
loop-k-preserved c = using_more _ _ _ c.requires.count_in_bounds c.loop-k.invariant _ (omega arith) (simp (to_z-of_z, read_fits c, c.ranges.part, sum_fits c))

pub shape_of-out : goal.shape_of-out
shape_of-out c = c.loop-k.invariant.so_far.as_long

pub returns : goal.returns
returns c = simp (to_z-of_z, c.ranges.part) at (using_all _ _ _ c.requires.count_in_bounds c.loop-k.invariant (omega arith) _ refl)
