-- `blame::index_byte` meets its contract.
use mathlib.Core.Path.{sym, ◌∙◌}
use native.Mathlib.Omega.{arith}
use Rattle.blame.proofs.BlameLaws.{index_ended, index_other, index_fields}
use Rattle.blame.proofs.index_byte.Goals as goal

pub returns-in-Ok : goal.returns-in-Ok
returns-in-Ok c = c.fields_byte.ensures ∙ index_fields _ _ _ _ _ _ _ (sym c.number_at.ensures ∙ c.in-Ok.is) c.if-index-i.true

pub overflow_add-result : goal.overflow_add-result
overflow_add-result c = omega (arith, c.requires)

pub returns-in-Ok-2 : goal.returns-in-Ok-2
returns-in-Ok-2 c = index_other _ _ _ _ _ _ _ (sym c.number_at.ensures ∙ c.in-Ok.is) c.if-index-i.false

pub returns-in-Err : goal.returns-in-Err
returns-in-Err c = c.ended_byte.ensures ∙ index_ended _ _ _ _ _ _ (sym c.number_at.ensures ∙ c.in-Err.is)
