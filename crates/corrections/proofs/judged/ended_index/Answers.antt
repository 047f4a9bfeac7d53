-- `corrections::judged::ended_index` meets its contract: the field that was read is an equation.
use mathlib.Core.Path.{sym, ◌∙◌}
use Rattle.corrections.specs.Corrections.{ended_index}
use Rattle.corrections.proofs.judged.ended_index.Goals as goal

pub returns-in-Ok : goal.returns-in-Ok
unfolding ended_index
returns-in-Ok c = rw (sym c.index_at.ensures ∙ c.in-Ok.is)

pub returns-in-Err : goal.returns-in-Err
unfolding ended_index
returns-in-Err c = rw (sym c.index_at.ensures ∙ c.in-Err.is)
