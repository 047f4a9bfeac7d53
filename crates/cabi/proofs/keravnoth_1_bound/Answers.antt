-- `cabi::keravnoth_1_bound` meets its contract: what `bound` answers, coded.
use mathlib.Core.Path.{ap, ◌∙◌}
use Rattle.coded.specs.Coded.{coded_bounded}
use Rattle.cabi.proofs.keravnoth_1_bound.Goals as goal

pub returns : goal.returns
returns c = c.code_bounded.ensures ∙ ap coded_bounded c.bound.ensures
