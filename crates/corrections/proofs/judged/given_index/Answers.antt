-- `corrections::judged::given_index` meets its contract: the field that was read is an equation.
use mathlib.Core.Path.{◌≡◌, sym, ap, ◌∙◌}
use Rattle.text.specs.Fields.{number_at}
use Rattle.lines.specs.RowKinds.{sep_by}
use Rattle.corrections.specs.Corrections.{index_place, given_index}
use Rattle.corrections.proofs.judged.given_index.Goals as goal

pub returns-in-Ok : goal.returns-in-Ok
unfolding given_index
returns-in-Ok c = let field : c.index_at.result ≡ number_at c.args.line.now (index_place c.args.kind) (sep_by c.args.kind) = c.index_at.ensures ∙ ap (number_at c.args.line.now (index_place c.args.kind)) c.sep_of.ensures in
    rw (sym (field) ∙ c.in-Ok.is)

pub returns-in-Err : goal.returns-in-Err
unfolding given_index
returns-in-Err c = let field : c.index_at.result ≡ number_at c.args.line.now (index_place c.args.kind) (sep_by c.args.kind) = c.index_at.ensures ∙ ap (number_at c.args.line.now (index_place c.args.kind)) c.sep_of.ensures in
    rw (sym (field) ∙ c.in-Err.is) c.ended_index.ensures
