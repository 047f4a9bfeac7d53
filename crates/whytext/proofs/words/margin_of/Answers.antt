-- `whytext::words::margin_of` is safe: each part of the room is as long as the header says.
use mathlib.Core.Path.{sym}
use lib.Seq.{length-take-le}
use Rattle.types.proofs.RangeLaws.{header_in_lem}
use Rattle.whytext.proofs.words.margin_of.Goals as goal

pub slice_bounds-rams-end : goal.slice_bounds-rams-end
slice_bounds-rams-end c = (header_in_lem _ c.requires.exact.header).rows_most_lem

pub slice_bounds-fill_rows-end : goal.slice_bounds-fill_rows-end
slice_bounds-fill_rows-end c = sym (length-take-le _ _ (header_in_lem _ c.requires.exact.header).rows_most_lem)

pub slice_bounds-starts-end : goal.slice_bounds-starts-end
slice_bounds-starts-end c = (header_in_lem _ c.requires.exact.header).rows_most_lem

pub slice_bounds-fill_rows-end-2 : goal.slice_bounds-fill_rows-end-2
slice_bounds-fill_rows-end-2 c = sym (length-take-le _ _ (header_in_lem _ c.requires.exact.header).rows_most_lem)

pub slice_bounds-states-end : goal.slice_bounds-states-end
slice_bounds-states-end c = (header_in_lem _ c.requires.exact.header).rows_most_lem

pub slice_bounds-fill_rows-end-3 : goal.slice_bounds-fill_rows-end-3
slice_bounds-fill_rows-end-3 c = sym (length-take-le _ _ (header_in_lem _ c.requires.exact.header).rows_most_lem)

pub fill_rows-requires : goal.fill_rows-requires
fill_rows-requires c =
    let few = (header_in_lem _ c.requires.exact.header).rows_most_lem in
    record { good = c.requires; rams_len = (length-take-le _ _ few, length-take-le _ _ few); states_len = length-take-le _ _ few }

pub margins_good-requires : goal.margins_good-requires
margins_good-requires c = record { good = c.requires; rows_in_bounds = (header_in_lem _ c.requires.exact.header).rows_most_lem }
