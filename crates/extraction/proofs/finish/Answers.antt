-- `extraction::finish` meets its contract: the rounds run, and what they leave is stored (`finished-is`).
use mathlib.Core.Path.{◌≡◌, sym, ◌∙◌}
use native.Mathlib.Omega.{arith}
use lib.ListN.{length, take}
use Rattle.types.proofs.RangeLaws.{header_in_lem}
use Rattle.extractrules.proofs.ExtractLaws.{front_long, front_within, lasts_long, shares_long, lasts_fit, lefts_fit, finished_is}
use Rattle.extraction.proofs.finish.Goals as goal

pub run-end-requires : goal.run-end-requires
run-end-requires c = record { runnable = c.requires.finishable.run; ns_len = c.requires.ns_len }

pub slice_bounds-x-end : goal.slice_bounds-x-end
slice_bounds-x-end c = front_within c.requires.finishable c.run-end.result c.run-end.ensures

pub slice_bounds-store_atcs-end : goal.slice_bounds-store_atcs-end
slice_bounds-store_atcs-end c = let front : length (take c.args.h.borders c.run-end.result.x) ≡ c.args.h.borders = front_long c.requires.finishable c.run-end.result c.run-end.ensures in
    sym (front)

pub invariant_of-grid : goal.invariant_of-grid
invariant_of-grid c = omega (arith, c.requires.finishable.run.p_long)

pub store_atcs-requires : goal.store_atcs-requires
store_atcs-requires c = let front : length (take c.args.h.borders c.run-end.result.x) ≡ c.args.h.borders = front_long c.requires.finishable c.run-end.result c.run-end.ensures in
    record { shares_len = (shares_long c.requires.finishable c.run-end.result c.run-end.ensures, omega (arith, (header_in_lem _ c.requires.finishable.run.header).rows_most_lem)); x_len = (front, lasts_long c.requires.finishable c.run-end.result c.run-end.ensures, c.requires.borders_in_bounds.0); by_index = lasts_fit c.requires.finishable c.run-end.result c.run-end.ensures }

pub store_lefts-requires : goal.store_lefts-requires
store_lefts-requires c = record {
  rams_len = (
    c.requires.finishable.rams_long ∙ sym c.requires.finishable.states_long,
    c.run-end.auto.margins ∙ c.requires.finishable.run.margins_long ∙ sym c.requires.finishable.states_long,
    omega (arith, c.requires.finishable.states_long, c.requires.borders_in_bounds.1),
  );
  by_index = lefts_fit c.requires.finishable c.run-end.result c.run-end.ensures;
}

pub returns : goal.returns
returns c = finished_is c.requires.finishable c.run-end.result c.run-end.ensures _ _ c.store_atcs.ensures c.store_lefts.ensures
