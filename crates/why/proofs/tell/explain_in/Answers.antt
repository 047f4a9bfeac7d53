-- `why::tell::explain_in` meets its contract: the rounds run, and what they leave is told (`told_is`).
use mathlib.Core.Path.{sym, ◌∙◌}
use native.Mathlib.Omega.{arith}
use Rattle.numbers.proofs.IntLaws.{plain}
use Rattle.types.proofs.RangeLaws.{header_in_lem}
use Rattle.holding.proofs.HoldLaws.{work_ready}
use Rattle.why.proofs.TellLaws.{told_startable, front_long, to_long, to_within, counts_long, lasts_long, stood_long, ends_fit, holds_fit, told_is}
use Rattle.why.proofs.tell.explain_in.Goals as goal

pub invariant_of-grid : goal.invariant_of-grid
invariant_of-grid c = omega (arith, c.requires.runnable.p_long)

pub work-end-requires : goal.work-end-requires
work-end-requires c = record { borders_in_bounds = (c.requires.states_len.1, (header_in_lem _ c.requires.runnable.header).borders_most_lem); startable = told_startable c.requires.runnable c.exchanges-from.ensures; ns_len = c.requires.ns_len }

pub slice_bounds-store_ends-end : goal.slice_bounds-store_ends-end
slice_bounds-store_ends-end c = sym (front_long c.requires.runnable c.exchanges-from.ensures)

pub slice_bounds-to-end : goal.slice_bounds-to-end
slice_bounds-to-end c = to_within c.requires.runnable c.exchanges-from.ensures c.work-end.ensures (c.work-end.auto.margins ∙ c.requires.runnable.margins_long)

pub slice_bounds-store_ends-end-2 : goal.slice_bounds-store_ends-end-2
slice_bounds-store_ends-end-2 c = sym (to_long c.requires.runnable c.exchanges-from.ensures c.work-end.ensures (c.work-end.auto.margins ∙ c.requires.runnable.margins_long))

pub store_ends-requires : goal.store_ends-requires
store_ends-requires c = let long = c.work-end.auto.margins ∙ c.requires.runnable.margins_long in record { to_len = (to_long c.requires.runnable c.exchanges-from.ensures c.work-end.ensures long ∙ sym (front_long c.requires.runnable c.exchanges-from.ensures), omega (arith, front_long c.requires.runnable c.exchanges-from.ensures, c.requires.borders_in_bounds.0)); by_index = ends_fit c.requires.runnable c.exchanges-from.ensures c.work-end.ensures long }

pub store_holds-requires : goal.store_holds-requires
store_holds-requires c = let long = c.work-end.auto.margins ∙ c.requires.runnable.margins_long in record { borders_in_bounds = (c.requires.states_len.1, c.requires.borders_in_bounds.1); states_len = (c.requires.states_len.0, counts_long c.requires.runnable c.exchanges-from.ensures c.work-end.ensures long, long); by_index = holds_fit c.requires.runnable c.exchanges-from.ensures c.work-end.ensures long }

pub find_stops-stops-requires : goal.find_stops-stops-requires
find_stops-stops-requires c = let long = c.work-end.auto.margins ∙ c.requires.runnable.margins_long in record { borders_in_bounds = (c.requires.states_len.1, omega (arith, (header_in_lem _ c.requires.runnable.header).rows_most_lem)); ready = (work_ready (told_startable c.requires.runnable c.exchanges-from.ensures) c.work-end.ensures.counts long, work_ready (told_startable c.requires.runnable c.exchanges-from.ensures) c.work-end.ensures.counts (stood_long c.requires.runnable c.exchanges-from.ensures c.work-end.ensures long)) }

pub offset_bounds-lasts-border : goal.offset_bounds-lasts-border
offset_bounds-lasts-border c = omega (arith, c.requires.states_len.1, (header_in_lem _ c.requires.runnable.header).borders_most_lem)

pub bounds-lasts-border : goal.bounds-lasts-border
bounds-lasts-border c = omega (arith, c.requires.states_len.1, lasts_long c.requires.runnable c.exchanges-from.ensures c.work-end.ensures (c.work-end.auto.margins ∙ c.requires.runnable.margins_long))

pub returns : goal.returns
returns c = let long = c.work-end.auto.margins ∙ c.requires.runnable.margins_long in
    told_is c.requires.runnable c.exchanges-from.ensures c.work-end.ensures long c.requires.states_len.1 _ _ _ (plain _ c.struct_told-1.given.0.1 ∙ c.find_stops-stops.ensures.0) (plain _ c.struct_told-1.given.1.0.1 ∙ c.find_stops-stops.ensures.1) c.store_ends.ensures c.store_holds.ensures
