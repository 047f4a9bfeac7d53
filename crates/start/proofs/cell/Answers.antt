-- `start::cell` meets its contract.
use mathlib.Core.Path.{ap, ◌∙◌}
use borrow.Author.Tests.{eq-eqb, ne_eqb}
use Rattle.marginrules.specs.Margin.{p_of}
use Rattle.marginrules.proofs.JudgedLaws.{border_judged}
use Rattle.start.proofs.cell.Goals as goal

pub returns-then-flag-eq0 : goal.returns-then-flag-eq0
returns-then-flag-eq0 c = rw (eq-eqb _ _ c.if-flag-eq0.true)

pub of_good-requires : goal.of_good-requires
of_good-requires c = c.requires.raw_value

pub p-requires : goal.p-requires
p-requires c = record { factors_in_range = c.requires.factors_in_range; border_in_range = border_judged _ _ c.requires.raw_value c.of_good.ensures }

pub returns-then-state-eq0 : goal.returns-then-state-eq0
returns-then-state-eq0 c = rw (ne_eqb _ _ c.if-flag-eq0.false, eq-eqb _ _ c.if-state-eq0.true) (c.p.ensures ∙ ap (p_of _) c.of_good.ensures)

pub returns-else-state-eq0 : goal.returns-else-state-eq0
returns-else-state-eq0 c = rw (ne_eqb _ _ c.if-flag-eq0.false, ne_eqb _ _ c.if-state-eq0.false)
