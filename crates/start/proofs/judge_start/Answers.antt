-- `start::judge_start` meets its contract: each search is a link of the definition's chain, and the first that found something decides.
use mathlib.Core.Path.{sym, ◌∙◌}
use borrow.Author.Tests.{not-true, not-false}
use Rattle.setup.specs.Setup.{grid_by}
use Rattle.extractrules.specs.Start.{grid_of, setup_with}
use Rattle.extractrules.proofs.StartLaws.{none_kept, border_free, row_below, may_start}
use Rattle.start.proofs.judge_start.Goals as goal

pub returns-then-not-some_kept : goal.returns-then-not-some_kept
unfolding grid_of grid_by setup_with
returns-then-not-some_kept c = none_kept _ _ _ _ _ _ c.requires.states_len.0 (sym c.some_kept.ensures ∙ not-true _ c.if-not-some_kept.true-raw)

pub first_unlimited-requires : goal.first_unlimited-requires
first_unlimited-requires c = record { table_factors_in_range = c.requires.table_factors_in_range; borders_in_range = c.requires.borders_in_range; b_len = c.requires.b_len; states_len = c.requires.states_len.0 }

pub returns-in-Some : goal.returns-in-Some
unfolding grid_of grid_by setup_with
returns-in-Some c = border_free _ _ _ _ _ _ c.requires.states_len.0 (sym c.some_kept.ensures ∙ not-false _ c.if-not-some_kept.false-raw) _ (sym (c.in-Some.is) ∙ c.first_unlimited.ensures)

pub first_below-requires : goal.first_below-requires
first_below-requires c = c.requires.states_len.1 ∙ sym c.requires.states_len.0

pub returns-in-Some-first_below : goal.returns-in-Some-first_below
unfolding grid_of grid_by setup_with
returns-in-Some-first_below c = row_below _ _ _ _ _ _ c.requires.states_len.0 (sym c.some_kept.ensures ∙ not-false _ c.if-not-some_kept.false-raw) (sym (c.in_default.is) ∙ c.first_unlimited.ensures) _
    (sym (c.in-Some-first_below.is) ∙ (rw c.is_intraday.ensures at c.first_below.ensures))

pub returns : goal.returns
unfolding grid_of grid_by setup_with
returns c = may_start _ _ _ _ _ _ c.requires.states_len.0 (sym c.some_kept.ensures ∙ not-false _ c.if-not-some_kept.false-raw) (sym (c.in_default.is) ∙ c.first_unlimited.ensures)
    (sym (c.in_default-first_below.is) ∙ (rw c.is_intraday.ensures at c.first_below.ensures))
