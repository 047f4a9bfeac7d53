use native.Mathlib.Omega.{arith}
use Rattle.numbers.proofs.ListLaws.{filled_none, filled_more, filled_over}
use Rattle.numbers.proofs.IntLaws.{plain}
use Rattle.outcome.proofs.store_lefts.Goals as goal

pub loop-i-init : goal.loop-i-init
loop-i-init c = filled_none _ _ _

pub as_record-requires : goal.as_record-requires
as_record-requires c = c.requires.by_index _ (omega arith)

pub loop-i-preserved : goal.loop-i-preserved
loop-i-preserved c = filled_more c.loop-i.invariant _ (omega arith) (omega (arith, c.requires.rams_len)) (rw (plain _ c.result-1.given) at c.as_record.ensures)

pub returns : goal.returns
returns c = filled_over c.loop-i.invariant (omega arith)
