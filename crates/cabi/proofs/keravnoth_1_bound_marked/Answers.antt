-- `cabi::keravnoth_1_bound_marked` meets its contract: what `bound_marked` answers, coded.
use mathlib.Core.Path.{ap, ◌∙◌}
use Rattle.coded.specs.Coded.{coded_bounded}
use Rattle.cabi.proofs.keravnoth_1_bound_marked.Goals as goal

pub returns : goal.returns
returns c = c.code_bounded.ensures ∙ ap coded_bounded c.bound_marked.ensures
