-- `blame::ended_byte` meets its contract.
use mathlib.Core.Path.{sym, ap, ◌∙◌}
use native.Mathlib.Omega.{arith}
use Rattle.blame.specs.Blame.{other_index}
use Rattle.blame.proofs.BlameLaws.{ended_other, ended_bad}
use Rattle.blame.proofs.ended_byte.Given as x
use Rattle.blame.proofs.ended_byte.Goals as goal

pub overflow_add-result : goal.overflow_add-result
overflow_add-result c = omega (arith, c.requires)

pub returns-then-other_index : goal.returns-then-other_index
returns-then-other_index c = ended_other _ _ _ _ _ (ap (other_index _) (sym c.number_at.ensures) ∙ sym c.other_index.ensures ∙ c.if-other_index.true)

pub returns : goal.returns
returns c = c.byte_at.ensures ∙ ended_bad _ _ _ _ _ (ap (other_index _) (sym c.number_at.ensures) ∙ sym c.other_index.ensures ∙ c.if-other_index.false)
