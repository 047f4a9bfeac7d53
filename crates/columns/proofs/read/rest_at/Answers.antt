-- `columns::read::rest_at` meets its contract.
use mathlib.Core.Path.{sym, ap, ◌∙◌}
use Prim.Native.Nat.{ℕ}
use Rattle.std.specs.Prelude.{Result}
use Rattle.columns.specs.Columns.{stored}
use Rattle.columns.proofs.ColumnLaws.{rest_bad, rest_more, rest_end}
use Rattle.std.proofs.lemmas.Result.{err_from_is_err_and}
use Rattle.columns.proofs.read.rest_at.Goals as goal

pub returns-in_err-next : goal.returns-in_err-next
returns-in_err-next c = let p = err_from_is_err_and c.from_residual.result c.from_residual.ensures.1 in rw (p.1, p.2) (rest_bad _ _ _ _ _ (ap (λ (f : Result ℕ ℕ). stored f c.fields_at.new.out) (sym c.in_err-next.was) ∙ c.fields_at.ensures))

pub returns-then-next-line : goal.returns-then-next-line
returns-then-next-line c = rest_more _ _ _ _ c.fields_at.new.out _ (ap (λ (f : Result ℕ ℕ). stored f c.fields_at.new.out) (sym c.in_ok-next.was) ∙ c.fields_at.ensures) c.if-next-line.true

pub returns : goal.returns
returns c = rest_end _ _ _ _ c.fields_at.new.out _ (ap (λ (f : Result ℕ ℕ). stored f c.fields_at.new.out) (sym c.in_ok-next.was) ∙ c.fields_at.ensures) c.if-next-line.false
