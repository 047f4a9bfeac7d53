-- `claims::judge_claims_good` meets its contract, which is that of `judge_in`: each part of the room is as long as the header says, and no flag is set.
use mathlib.Core.Path.{refl, sym}
use lib.Seq.{length-take-le}
use Rattle.numbers.specs.Below.{table}
use Rattle.types.proofs.RangeLaws.{header_in_lem}
use Rattle.claims.proofs.judge_claims_good.Goals as goal

pub slice_bounds-rams-end : goal.slice_bounds-rams-end
slice_bounds-rams-end c = (header_in_lem _ c.requires.exact.header).rows_most_lem

pub slice_bounds-judge_in-end : goal.slice_bounds-judge_in-end
slice_bounds-judge_in-end c = sym (length-take-le _ _ (header_in_lem _ c.requires.exact.header).rows_most_lem)

pub slice_bounds-starts-end : goal.slice_bounds-starts-end
slice_bounds-starts-end c = (header_in_lem _ c.requires.exact.header).rows_most_lem

pub slice_bounds-judge_in-end-2 : goal.slice_bounds-judge_in-end-2
slice_bounds-judge_in-end-2 c = sym (length-take-le _ _ (header_in_lem _ c.requires.exact.header).rows_most_lem)

pub slice_bounds-states-end : goal.slice_bounds-states-end
slice_bounds-states-end c = (header_in_lem _ c.requires.exact.header).rows_most_lem

pub slice_bounds-judge_in-end-3 : goal.slice_bounds-judge_in-end-3
slice_bounds-judge_in-end-3 c = sym (length-take-le _ _ (header_in_lem _ c.requires.exact.header).rows_most_lem)

pub judge_in-requires : goal.judge_in-requires
unfolding table
judge_in-requires c = record { good = c.requires; rams_len = (length-take-le _ _ (header_in_lem _ c.requires.exact.header).rows_most_lem, length-take-le _ _ (header_in_lem _ c.requires.exact.header).rows_most_lem); states_len = length-take-le _ _ (header_in_lem _ c.requires.exact.header).rows_most_lem; named_value = (refl, refl) }
