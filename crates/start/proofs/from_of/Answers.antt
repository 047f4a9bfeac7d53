-- `start::from_of` meets its contract.
use mathlib.Core.Path.{ap, ◌∙◌}
use Rattle.marginrules.specs.Margin.{lta_kw}
use Rattle.marginrules.proofs.JudgedLaws.{border_judged}
use Rattle.start.proofs.from_of.Goals as goal

pub returns-then-intraday : goal.returns-then-intraday
returns-then-intraday c = rw c.if-intraday.true

pub of_good-requires : goal.of_good-requires
of_good-requires c = c.requires

pub lta_kw-requires : goal.lta_kw-requires
lta_kw-requires c = (border_judged _ _ c.requires c.of_good.ensures).lta_in

pub returns : goal.returns
returns c = rw c.if-intraday.false (c.lta_kw.ensures ∙ ap lta_kw c.of_good.ensures)
