use mathlib.Core.Path.{◌∙◌}
use native.Mathlib.Omega.{arith}
use Rattle.output.proofs.HeardLaws.{heard_none, heard_refusal, heard_other}
use Rattle.output.proofs.heard.Goals as goal

pub returns-in-69 : goal.returns-in-69
returns-in-69 c = c.refusal_in.ensures ∙ heard_refusal _ (omega arith)

pub returns-in_default : goal.returns-in_default
returns-in_default c = heard_none _ (omega arith)

pub returns-in_default-2 : goal.returns-in_default-2
returns-in_default-2 c = heard_other _ (λ e. omega arith)
