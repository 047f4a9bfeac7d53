-- `pagelook::look::look` meets its contract: each part of the room is as long as the header says.
use Rattle.std.proofs.Common.{◌≤◌, sym, mul-le-mul, arith, length-take-le}
use Rattle.limits.specs.Limits.{rows_most}
use Rattle.types.proofs.RangeLaws.{HeaderIn, header_in_lem}
use Rattle.pagelook.proofs.look.look.Goals as goal

pub why_good-requires-clause-borders_in_bounds : goal.why_good-requires-clause-borders_in_bounds
why_good-requires-clause-borders_in_bounds c =
    let within : HeaderIn c.args.view.now.header = header_in_lem _ c.requires.exact.header in
    mul-le-mul within.rows_most_lem within.borders_most_lem

pub slice_bounds-rows-end : goal.slice_bounds-rows-end
slice_bounds-rows-end c =
    let few : c.args.view.now.header.rows ≤ rows_most = (header_in_lem _ c.requires.exact.header).rows_most_lem in
    omega arith

pub slice_bounds-note-end-in-Ok-2 : goal.slice_bounds-note-end-in-Ok-2
slice_bounds-note-end-in-Ok-2 c =
    let few : c.args.view.now.header.rows ≤ rows_most = (header_in_lem _ c.requires.exact.header).rows_most_lem in
    sym (length-take-le _ _ (omega arith))

pub note-requires : goal.note-requires
note-requires c =
    let within : HeaderIn c.args.view.now.header = header_in_lem _ c.requires.exact.header in
    omega (arith, mul-le-mul within.rows_most_lem within.borders_most_lem)
