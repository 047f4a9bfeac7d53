-- `marks::judge` meets its contract: no mark (`none_given`), the first faulty one (`mark_faulty`), or neither (`marks_good`).
use mathlib.Core.Path.{sym, ◌∙◌}
use native.Mathlib.Omega.{arith}
use Rattle.numbers.proofs.FirstLaws.{first_within}
use Rattle.marks.proofs.MarkLaws.{none_given, mark_faulty, marks_good}
use Rattle.marks.proofs.judge.Goals as goal

pub returns-then-is_empty : goal.returns-then-is_empty
returns-then-is_empty c = none_given _ _ _ (grind (arith, c.if-is_empty.true, c.is_empty.ensures))

pub overflow_add-result : goal.overflow_add-result
overflow_add-result c = omega (arith, first_within _ _ (sym c.in-Some.is ∙ c.first_faulty.ensures))

pub returns-in-Some : goal.returns-in-Some
returns-in-Some c = mark_faulty _ _ _ (grind (arith, c.if-is_empty.false, c.is_empty.ensures)) (sym c.in-Some.is ∙ c.first_faulty.ensures)

pub returns-in-None : goal.returns-in-None
returns-in-None c = marks_good _ _ _ (grind (arith, c.if-is_empty.false, c.is_empty.ensures)) (sym c.in-None.is ∙ c.first_faulty.ensures)
