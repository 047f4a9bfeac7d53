-- `columns::read::both_at` meets its contract.
use mathlib.Core.Path.{sym, ap, ◌∙◌}
use Prim.Native.Nat.{ℕ}
use Rattle.std.specs.Prelude.{Result}
use Rattle.types.specs.LineColumns.{columns_of}
use Rattle.columns.specs.Columns.{stored}
use Rattle.columns.proofs.ColumnLaws.{part_bad, part_more}
use Rattle.std.proofs.lemmas.Result.{err_from_is_err_and}
use Rattle.columns.proofs.read.both_at.Goals as goal

pub returns-in_err-next : goal.returns-in_err-next
returns-in_err-next c = let p = err_from_is_err_and c.from_residual.result c.from_residual.ensures.1 in rw (p.1, p.2) (part_bad c.args.sep (columns_of c.args.first.now) c.args.line.now c.args.at c.args.second.now c.requires.1 _
    (ap (λ (f : Result ℕ ℕ). stored f c.fields_at.new.out) (sym c.in_err-next.was) ∙ c.fields_at.ensures))

pub returns : goal.returns
returns c = part_more c.args.sep (columns_of c.args.first.now) c.args.line.now c.args.at c.args.second.now c.requires.1 c.fields_at.new.out c.rest_at.new.out _ c.rest_at.result
    (ap (λ (f : Result ℕ ℕ). stored f c.fields_at.new.out) (sym c.in_ok-next.was) ∙ c.fields_at.ensures) c.rest_at.ensures
