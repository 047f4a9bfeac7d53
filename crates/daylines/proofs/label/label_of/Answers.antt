-- `daylines::label::label_of` meets its contract: the law `folder-off`.
use mathlib.Core.Path.{◌∙◌}
use Rattle.daylines.proofs.LabelLaws.{folder_off}
use Rattle.daylines.proofs.label.label_of.Goals as goal

pub returns : goal.returns
returns c = c.without_ending.ensures ∙ folder_off _ c.past_last-base.ensures.value
