-- `columns::read::index_at` meets its contract.
use mathlib.Core.Path.{sym, ap, ◌∙◌}
use Rattle.columns.specs.ColumnLine.{own_index}
use Rattle.columns.proofs.ColumnLaws.{index_own, index_other}
use Rattle.std.proofs.lemmas.Result.{err_from_is_err_and}
use Rattle.columns.proofs.read.index_at.Goals as goal

pub returns-in_err-index : goal.returns-in_err-index
returns-in_err-index c = let p = err_from_is_err_and c.from_residual.result c.from_residual.ensures.1 in rw (p.1, p.2) (ap (own_index _ _) (sym c.in_err-index.was ∙ c.number_at.ensures))

pub returns-then-index-i : goal.returns-then-index-i
returns-then-index-i c = index_other _ _ _ _ c.if-index-i.true ∙ ap (own_index _ _) (sym c.in_ok-index.was ∙ c.number_at.ensures)

pub returns : goal.returns
returns c = index_own _ _ _ _ c.if-index-i.false ∙ ap (own_index _ _) (sym c.in_ok-index.was ∙ c.number_at.ensures)
