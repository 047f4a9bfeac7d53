use native.Mathlib.Omega.{arith}
use Rattle.rounds.proofs.Loops.{counted_none, counted_up, counted_on, counted_le, counted_all}
use Rattle.partrules.specs.Parts.{n_of}
use Rattle.parts.proofs.row.count_loading.Goals as goal
use Rattle.parts.proofs.row.count_loading.Goals.{then-p_at-gt0, else-p_at-gt0}

pub loop-k-init : goal.loop-k-init
loop-k-init c = counted_none _ _

pub p_at-requires : goal.p_at-requires
p_at-requires c = record { factors_in_range = c.requires.factors_in_range; raw_value = c.requires.borders_in_range.each _ (omega arith) }

pub overflow_add-n : goal.overflow_add-n
overflow_add-n c = omega (arith, counted_le c.loop-k.invariant)

pub loop-k-preserved : goal.loop-k-preserved
loop-k-preserved c =
    elim c.if-p_at-gt0.branch [
      | then-p_at-gt0 w ↦ counted_up c.loop-k.invariant _ _ (omega arith) c.p_at.ensures w.if-p_at-gt0.true w.n-is
      | else-p_at-gt0 w ↦ counted_on c.loop-k.invariant _ _ (omega arith) c.p_at.ensures w.if-p_at-gt0.false w.n-is
    ]

pub returns : goal.returns
unfolding n_of
returns c = counted_all c.loop-k.invariant (omega arith)
