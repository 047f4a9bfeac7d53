-- `pagelook::survey` meets its contract: each part of the room is as long as the header says.
use Rattle.std.proofs.Common.{◌≤◌, sym, length-take-le}
use Rattle.limits.specs.Limits.{rows_most}
use Rattle.types.proofs.RangeLaws.{header_in_lem}
use Rattle.pagelook.proofs.survey.Goals as goal

pub slice_bounds-rams-end : goal.slice_bounds-rams-end
slice_bounds-rams-end c = let few : c.args.view.now.header.rows ≤ rows_most = (header_in_lem _ c.requires.exact.header).rows_most_lem in
    few

pub slice_bounds-survey_with-end : goal.slice_bounds-survey_with-end
slice_bounds-survey_with-end c = let few : c.args.view.now.header.rows ≤ rows_most = (header_in_lem _ c.requires.exact.header).rows_most_lem in
    sym (length-take-le _ _ (few))

pub slice_bounds-starts-end : goal.slice_bounds-starts-end
slice_bounds-starts-end c = let few : c.args.view.now.header.rows ≤ rows_most = (header_in_lem _ c.requires.exact.header).rows_most_lem in
    few

pub slice_bounds-survey_with-end-2 : goal.slice_bounds-survey_with-end-2
slice_bounds-survey_with-end-2 c = let few : c.args.view.now.header.rows ≤ rows_most = (header_in_lem _ c.requires.exact.header).rows_most_lem in
    sym (length-take-le _ _ (few))

pub slice_bounds-states-end : goal.slice_bounds-states-end
slice_bounds-states-end c = let few : c.args.view.now.header.rows ≤ rows_most = (header_in_lem _ c.requires.exact.header).rows_most_lem in
    few

pub slice_bounds-survey_with-end-3 : goal.slice_bounds-survey_with-end-3
slice_bounds-survey_with-end-3 c = let few : c.args.view.now.header.rows ≤ rows_most = (header_in_lem _ c.requires.exact.header).rows_most_lem in
    sym (length-take-le _ _ (few))

pub survey_with-requires : goal.survey_with-requires
survey_with-requires c = let few : c.args.view.now.header.rows ≤ rows_most = (header_in_lem _ c.requires.exact.header).rows_most_lem in
    record { good = c.requires; rams_len = (length-take-le _ _ (few), length-take-le _ _ (few)); states_len = (length-take-le _ _ (few), few) }
