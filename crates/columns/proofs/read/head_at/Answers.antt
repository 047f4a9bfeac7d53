-- `columns::read::head_at` meets its contract.
use mathlib.Core.Path.{sym, ap, ◌∙◌}
use borrow.Author.Tests.{not-true, not-false}
use Rattle.columns.specs.ColumnLine.{numbered}
use Rattle.columns.proofs.ColumnLaws.{head_bad, head_goes}
use Rattle.columns.proofs.read.head_at.Goals as goal

pub returns-then-not-begins : goal.returns-then-not-begins
returns-then-not-begins c = head_bad _ _ _ (sym c.begins.ensures ∙ not-true _ c.if-not-begins.true-raw)

pub returns-in-Lettered : goal.returns-in-Lettered
returns-in-Lettered c = ap (λ h. numbered c.args.sep h c.args.line.now) (sym c.in-Lettered.is) ∙ head_goes _ _ _ (sym c.begins.ensures ∙ not-false _ c.if-not-begins.false-raw)

pub returns-in-Indexed : goal.returns-in-Indexed
returns-in-Indexed c = c.index_at.ensures ∙ ap (λ h. numbered c.args.sep h c.args.line.now) (sym c.in-Indexed.is) ∙ head_goes _ _ _ (sym c.begins.ensures ∙ not-false _ c.if-not-begins.false-raw)

pub returns-in-Bare : goal.returns-in-Bare
returns-in-Bare c = c.index_at-in-Bare.ensures ∙ ap (λ h. numbered c.args.sep h c.args.line.now) (sym c.in-Bare.is) ∙ head_goes _ _ _ (sym c.begins.ensures ∙ not-false _ c.if-not-begins.false-raw)
