-- `blame::line_byte` meets its contract.
use mathlib.Core.Path.{sym, ap, ◌∙◌}
use borrow.Author.Tests.{not-true, not-false}
use lib.Dec.{lit≤}
use Rattle.types.specs.LineColumns.{columns_of}
use Rattle.columns.specs.declared.Head.{Head}
use Rattle.blame.specs.Blame.{byte_after}
use Rattle.blame.proofs.BlameLaws.{line_other, line_after}
use Rattle.blame.proofs.line_byte.Goals as goal

pub returns-then-not-begins : goal.returns-then-not-begins
returns-then-not-begins c = line_other _ _ _ _ (sym c.begins.ensures ∙ not-true _ c.if-not-begins.true-raw)

pub index_byte-requires : goal.index_byte-requires
index_byte-requires c = lit≤ tt

pub index_byte-requires-in-Bare : goal.index_byte-requires-in-Bare
index_byte-requires-in-Bare c = lit≤ tt

pub returns-in-Lettered : goal.returns-in-Lettered
returns-in-Lettered c = c.fields_byte.ensures ∙ ap (λ (h : Head). byte_after c.args.sep h (columns_of c.args.columns.now) c.args.line.now) (sym c.in-Lettered.is) ∙ line_after _ _ _ _ (sym c.begins.ensures ∙ not-false _ c.if-not-begins.false-raw)

pub returns-in-Indexed : goal.returns-in-Indexed
returns-in-Indexed c = c.index_byte.ensures ∙ ap (λ (h : Head). byte_after c.args.sep h (columns_of c.args.columns.now) c.args.line.now) (sym c.in-Indexed.is) ∙ line_after _ _ _ _ (sym c.begins.ensures ∙ not-false _ c.if-not-begins.false-raw)

pub returns-in-Bare : goal.returns-in-Bare
returns-in-Bare c = c.index_byte-in-Bare.ensures ∙ ap (λ (h : Head). byte_after c.args.sep h (columns_of c.args.columns.now) c.args.line.now) (sym c.in-Bare.is) ∙ line_after _ _ _ _ (sym c.begins.ensures ∙ not-false _ c.if-not-begins.false-raw)
