-- `claimtext::published_text_good` meets its contract, which is that of `publish_in`: each part of the room is as long as the header says, and no flag is set.
use mathlib.Core.Path.{refl, sym}
use Prim.Native.Nat.{◌≤◌}
use lib.Seq.{length-take-le}
use Rattle.numbers.specs.Below.{table}
use Rattle.limits.specs.Limits.{rows_most}
use Rattle.types.proofs.RangeLaws.{header_in_lem}
use Rattle.claimtext.proofs.published_text_good.Goals as goal

pub slice_bounds-rams-end : goal.slice_bounds-rams-end
slice_bounds-rams-end c = let few : c.args.view.now.header.rows ≤ rows_most = (header_in_lem _ c.requires.exact.header).rows_most_lem in
    few

pub slice_bounds-publish_in-end : goal.slice_bounds-publish_in-end
slice_bounds-publish_in-end c = let few : c.args.view.now.header.rows ≤ rows_most = (header_in_lem _ c.requires.exact.header).rows_most_lem in
    sym (length-take-le _ _ few)

pub slice_bounds-starts-end : goal.slice_bounds-starts-end
slice_bounds-starts-end c = let few : c.args.view.now.header.rows ≤ rows_most = (header_in_lem _ c.requires.exact.header).rows_most_lem in
    few

pub slice_bounds-publish_in-end-2 : goal.slice_bounds-publish_in-end-2
slice_bounds-publish_in-end-2 c = let few : c.args.view.now.header.rows ≤ rows_most = (header_in_lem _ c.requires.exact.header).rows_most_lem in
    sym (length-take-le _ _ few)

pub slice_bounds-states-end : goal.slice_bounds-states-end
slice_bounds-states-end c = let few : c.args.view.now.header.rows ≤ rows_most = (header_in_lem _ c.requires.exact.header).rows_most_lem in
    few

pub slice_bounds-publish_in-end-3 : goal.slice_bounds-publish_in-end-3
slice_bounds-publish_in-end-3 c = let few : c.args.view.now.header.rows ≤ rows_most = (header_in_lem _ c.requires.exact.header).rows_most_lem in
    sym (length-take-le _ _ few)

pub publish_in-requires : goal.publish_in-requires
unfolding table
publish_in-requires c = let few : c.args.view.now.header.rows ≤ rows_most = (header_in_lem _ c.requires.exact.header).rows_most_lem in
    record { good = c.requires; rams_len = (length-take-le _ _ few, length-take-le _ _ few); states_len = length-take-le _ _ few; named_value = (refl, refl) }
