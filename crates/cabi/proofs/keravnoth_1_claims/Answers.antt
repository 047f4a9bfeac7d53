-- `cabi::keravnoth_1_claims` meets its contract: what `judge_claims` answers, coded.
use mathlib.Core.Path.{◌∙◌}
use Rattle.coded.proofs.JudgedLaws.{judged_coded}
use Rattle.cabi.proofs.keravnoth_1_claims.Goals as goal

pub returns : goal.returns
returns c = c.code_judged.ensures ∙ judged_coded c.judge_claims.result _ _ c.judge_claims.ensures
