-- `parts::row::p_at` meets its contract.
use mathlib.Core.Path.{ap, ◌∙◌}
use Rattle.marginrules.specs.Margin.{p_of}
use Rattle.marginrules.proofs.JudgedLaws.{border_judged}
use Rattle.parts.proofs.row.p_at.Goals as goal

pub of_good-requires : goal.of_good-requires
of_good-requires c = c.requires.raw_value

pub p-requires : goal.p-requires
p-requires c = record { factors_in_range = c.requires.factors_in_range; border_in_range = border_judged _ _ c.requires.raw_value c.of_good.ensures }

pub returns : goal.returns
returns c = c.p.ensures ∙ ap (p_of _) c.of_good.ensures
