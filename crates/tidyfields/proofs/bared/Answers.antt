-- `tidyfields::bared` meets its contract: the part between the quotes of a field that has them (`unquoted-part`), else the field.
use mathlib.Core.Path.{sym, ap, ◌∙◌}
use Rattle.tidyrules.specs.Fields.{unquoted, bared}
use Rattle.tidyfields.proofs.PieceLaws.{unquoted_part, unquoted_not}
use Rattle.tidyfields.proofs.bared.Goals as goal

pub returns-then-quoted : goal.returns-then-quoted
unfolding bared
returns-then-quoted c = c.trimmed.ensures ∙ unquoted_part c.args.last c.trimmed-t.result.now (sym c.quoted.ensures ∙ c.if-quoted.true) ∙ ap (unquoted c.args.last) c.trimmed-t.ensures

pub returns-else-quoted : goal.returns-else-quoted
unfolding bared
returns-else-quoted c = unquoted_not c.args.last c.trimmed-t.result.now (sym c.quoted.ensures ∙ c.if-quoted.false) ∙ ap (unquoted c.args.last) c.trimmed-t.ensures
