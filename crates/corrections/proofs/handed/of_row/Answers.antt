-- `corrections::handed::of_row` meets its contract: the field that was read is an equation.
use mathlib.Core.Path.{◌≡◌, sym, ap, ◌∙◌}
use Rattle.text.specs.Fields.{number_at}
use Rattle.lines.specs.RowKinds.{sep_by}
use Rattle.corrections.specs.Corrections.{index_place, of_row}
use Rattle.corrections.proofs.handed.of_row.Goals as goal

pub returns-in_default : goal.returns-in_default
unfolding of_row
returns-in_default c = let field : c.index_at.result ≡ number_at c.args.line.now (index_place c.args.kind) (sep_by c.args.kind) = c.index_at.ensures ∙ ap (number_at c.args.line.now (index_place c.args.kind)) c.sep_of.ensures in
    rw (sym (field) ∙ c.in_default.is)

pub returns : goal.returns
unfolding of_row
returns c = let field : c.index_at.result ≡ number_at c.args.line.now (index_place c.args.kind) (sep_by c.args.kind) = c.index_at.ensures ∙ ap (number_at c.args.line.now (index_place c.args.kind)) c.sep_of.ensures in
    rw (sym (field) ∙ c.in-Ok.is)
