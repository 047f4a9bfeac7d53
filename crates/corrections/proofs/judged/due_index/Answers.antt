-- `corrections::judged::due_index` meets its contract: one law for each answer.
use native.Mathlib.Omega.{arith}
use Rattle.corrections.proofs.SheetLaws.{given_small, due_own, due_low, due_high}
use Rattle.corrections.proofs.judged.due_index.Goals as goal
use Rattle.corrections.proofs.judged.due_index.Goals.{else-least-given-via-then-least-given+else-given-rows, else-least-given-via-else-least-given}

pub returns-then-given-rows : goal.returns-then-given-rows
returns-then-given-rows c = due_own _ _ _ _ _ c.given_index-given.ensures c.if-least-given.true c.if-given-rows.true

pub overflow_add-result : goal.overflow_add-result
overflow_add-result c = omega (arith, given_small c.args.kind c.args.line.now, c.given_index-given.ensures)

pub returns-else-least-given : goal.returns-else-least-given
returns-else-least-given c =
    elim c.else-least-given.branch [ else-least-given-via-then-least-given+else-given-rows w ↦ due_high _ _ _ _ _ c.given_index-given.ensures w.if-least-given.true w.if-given-rows.false | else-least-given-via-else-least-given w ↦ due_low _ _ _ _ _ c.given_index-given.ensures w.if-least-given.false ]
