-- `corrections::handed::sheet_after` meets its contract: the test is the definition's.
use mathlib.Core.Path.{sym, ◌∙◌}
use Rattle.corrections.proofs.handed.sheet_after.Goals as goal

pub returns-then-of_row : goal.returns-then-of_row
returns-then-of_row c = rw (sym c.of_row.ensures ∙ c.if-of_row.true)

pub returns-else-of_row : goal.returns-else-of_row
returns-else-of_row c = rw (sym c.of_row.ensures ∙ c.if-of_row.false)
