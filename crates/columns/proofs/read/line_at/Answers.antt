-- `columns::read::line_at` meets its contract.
use mathlib.Core.Path.{sym, ◌∙◌}
use Rattle.columns.proofs.ColumnLaws.{line_bad, line_goes}
use Rattle.std.proofs.lemmas.Result.{err_from_is_err_and}
use Rattle.columns.proofs.read.line_at.Goals as goal

pub returns-in_err-at : goal.returns-in_err-at
returns-in_err-at c = let p = err_from_is_err_and c.from_residual.result c.from_residual.ensures.1 in rw (p.1, p.2) (line_bad _ _ _ _ _ (sym c.head_at.ensures ∙ c.in_err-at.was))

pub returns : goal.returns
returns c = line_goes _ _ _ _ _ _ _ (sym c.head_at.ensures ∙ c.in_ok-at.was) c.rest_at.ensures
