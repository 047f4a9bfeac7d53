use mathlib.Core.Path.{sym, ap, ◌∙◌}
use Rattle.tidyrules.specs.Fields.{unled}
use Rattle.tidyfields.proofs.PieceLaws.{end_none, end_drops, end_keeps}
use Rattle.tidyfields.proofs.trimmed.Goals.{in_default, in-len1-up+then-not-edge}
use Rattle.tidyfields.proofs.trimmed.Goals as goal

pub loop-rest-preserved : goal.loop-rest-preserved
loop-rest-preserved c = end_drops c.args.last c.loop-rest.rest.now c.in-len1-up.len_at_least (sym c.edge.ensures ∙ c.if-not-edge.false) ∙ c.loop-rest.invariant

pub loop-rest-2-init : goal.loop-rest-2-init
loop-rest-2-init c = ap unled (sym (elim c.if-rest-lt1.branch [
  | in_default w ↦ end_none c.args.last c.loop-rest.rest.now w.in_default.len_below
  | in-len1-up+then-not-edge w ↦ end_keeps c.args.last c.loop-rest.rest.now w.in-len1-up.len_at_least (sym w.edge.ensures ∙ w.if-not-edge.true)
]) ∙ c.loop-rest.invariant)
