-- `parts::margins_good` meets its contract, which is that of `fill_parts`: each part of the room is as long as the header says.
use mathlib.Core.Path.{sym}
use Prim.Native.Nat.{◌≤◌}
use lib.Seq.{length-take-le}
use Rattle.limits.specs.Limits.{rows_most}
use Rattle.types.proofs.RangeLaws.{header_in_lem}
use Rattle.parts.proofs.margins_good.Goals as goal

pub slice_bounds-rams-end : goal.slice_bounds-rams-end
slice_bounds-rams-end c = (header_in_lem _ c.requires.good.exact.header).rows_most_lem

pub slice_bounds-fill_parts-end : goal.slice_bounds-fill_parts-end
slice_bounds-fill_parts-end c = sym (length-take-le _ _ (header_in_lem _ c.requires.good.exact.header).rows_most_lem)

pub slice_bounds-starts-end : goal.slice_bounds-starts-end
slice_bounds-starts-end c = (header_in_lem _ c.requires.good.exact.header).rows_most_lem

pub slice_bounds-fill_parts-end-2 : goal.slice_bounds-fill_parts-end-2
slice_bounds-fill_parts-end-2 c = sym (length-take-le _ _ (header_in_lem _ c.requires.good.exact.header).rows_most_lem)

pub slice_bounds-states-end : goal.slice_bounds-states-end
slice_bounds-states-end c = (header_in_lem _ c.requires.good.exact.header).rows_most_lem

pub slice_bounds-fill_parts-end-3 : goal.slice_bounds-fill_parts-end-3
slice_bounds-fill_parts-end-3 c = sym (length-take-le _ _ (header_in_lem _ c.requires.good.exact.header).rows_most_lem)

pub fill_parts-requires : goal.fill_parts-requires
fill_parts-requires c = record { good = c.requires.good; rams_len = (length-take-le _ _ (header_in_lem _ c.requires.good.exact.header).rows_most_lem, length-take-le _ _ (header_in_lem _ c.requires.good.exact.header).rows_most_lem); states_len = (length-take-le _ _ (header_in_lem _ c.requires.good.exact.header).rows_most_lem, c.requires.rows_in_bounds) }
