-- `extraction::extract_good` meets its contract: the marks decide first; each part of the room is as long as the header says, and what the lent table of p
-- holds beyond its front stays (`front-left`).
use Rattle.std.specs.Prelude.{Err}
use mathlib.Core.Path.{◌≡◌, refl, sym, ◌∙◌}
use Prim.Native.Nat.{◌*◌}
use native.Mathlib.Omega.{arith}
use borrow.Author.Rules.{rules}
use lib.Seq.{length-take-le}
use Rattle.marks.specs.Marks.{every, listed}
use Rattle.types.proofs.RangeLaws.{header_in_lem}
use Rattle.tablerules.specs.Table.{Table, lent_view, front}
use Rattle.extractrules.proofs.ExtractLaws.{front_left}
use Rattle.extractrules.proofs.LentLaws.{marks_refused, marks_passed}
use Rattle.extraction.proofs.extract_good.Goals as goal

pub returns-in_err-judge_asked : goal.returns-in_err-judge_asked
returns-in_err-judge_asked c = let whole : Table = front (lent_view c.args.view.now) in
    let told : c.from_residual.result ≡ Err c.in_err-judge_asked.field-0.0 = search rules in
    rw told (marks_refused (every c.args.marks) (listed c.args.marks) (whole) c.args.p.now c.args.atc.now c.args.left.now _ c.judge_asked.ensures _ c.in_err-judge_asked.was)

pub slice_bounds-flags-end : goal.slice_bounds-flags-end
slice_bounds-flags-end c = omega (arith, (header_in_lem _ c.requires.good.exact.header).borders_most_lem)

pub slice_bounds-extract_in-end : goal.slice_bounds-extract_in-end
slice_bounds-extract_in-end c = sym (length-take-le _ _ (omega (arith, (header_in_lem _ c.requires.good.exact.header).borders_most_lem)))

pub slice_bounds-rams-end : goal.slice_bounds-rams-end
slice_bounds-rams-end c = (header_in_lem _ c.requires.good.exact.header).rows_most_lem

pub slice_bounds-extract_in-end-2 : goal.slice_bounds-extract_in-end-2
slice_bounds-extract_in-end-2 c = sym (length-take-le _ _ (header_in_lem _ c.requires.good.exact.header).rows_most_lem)

pub slice_bounds-starts-end : goal.slice_bounds-starts-end
slice_bounds-starts-end c = (header_in_lem _ c.requires.good.exact.header).rows_most_lem

pub slice_bounds-extract_in-end-3 : goal.slice_bounds-extract_in-end-3
slice_bounds-extract_in-end-3 c = sym (length-take-le _ _ (header_in_lem _ c.requires.good.exact.header).rows_most_lem)

pub slice_bounds-states-end : goal.slice_bounds-states-end
slice_bounds-states-end c = (header_in_lem _ c.requires.good.exact.header).rows_most_lem

pub slice_bounds-extract_in-end-4 : goal.slice_bounds-extract_in-end-4
slice_bounds-extract_in-end-4 c = sym (length-take-le _ _ (header_in_lem _ c.requires.good.exact.header).rows_most_lem)

pub slice_bounds-margins-end : goal.slice_bounds-margins-end
slice_bounds-margins-end c = (header_in_lem _ c.requires.good.exact.header).rows_most_lem

pub slice_bounds-extract_in-end-5 : goal.slice_bounds-extract_in-end-5
slice_bounds-extract_in-end-5 c = sym (length-take-le _ _ (header_in_lem _ c.requires.good.exact.header).rows_most_lem)

pub slice_bounds-ns-end : goal.slice_bounds-ns-end
slice_bounds-ns-end c = (header_in_lem _ c.requires.good.exact.header).rows_most_lem

pub slice_bounds-extract_in-end-6 : goal.slice_bounds-extract_in-end-6
slice_bounds-extract_in-end-6 c = sym (length-take-le _ _ (header_in_lem _ c.requires.good.exact.header).rows_most_lem)

pub slice_bounds-lasts-end : goal.slice_bounds-lasts-end
slice_bounds-lasts-end c = (header_in_lem _ c.requires.good.exact.header).borders_most_lem

pub slice_bounds-extract_in-end-7 : goal.slice_bounds-extract_in-end-7
slice_bounds-extract_in-end-7 c = sym (length-take-le _ _ (header_in_lem _ c.requires.good.exact.header).borders_most_lem)

pub slice_bounds-extract_in-end-8 : goal.slice_bounds-extract_in-end-8
slice_bounds-extract_in-end-8 c = c.requires.borders_in_bounds

pub slice_bounds-extract_in-end-9 : goal.slice_bounds-extract_in-end-9
slice_bounds-extract_in-end-9 c = sym (length-take-le _ _ c.requires.borders_in_bounds)

pub extract_in-requires : goal.extract_in-requires
extract_in-requires c = let rows = (header_in_lem _ c.requires.good.exact.header).rows_most_lem in record { good = c.requires.good; flags_len = length-take-le _ _ (omega (arith, (header_in_lem _ c.requires.good.exact.header).borders_most_lem)); rams_len = (length-take-le _ _ rows, length-take-le _ _ rows); states_len = (length-take-le _ _ rows, length-take-le _ _ rows); ns_len = (length-take-le _ _ rows, length-take-le _ _ (header_in_lem _ c.requires.good.exact.header).borders_most_lem); p_len = length-take-le _ _ c.requires.borders_in_bounds }

pub returns : goal.returns
returns c = let whole : Table = front (lent_view c.args.view.now) in
    front_left _ (whole) (c.args.view.now.header.rows * c.args.view.now.header.borders) refl c.args.p.now c.requires.borders_in_bounds c.args.atc.now c.args.left.now c.extract_in.ensures
    ∙ marks_passed (every c.args.marks) (listed c.args.marks) (whole) c.args.p.now c.args.atc.now c.args.left.now _ c.judge_asked.ensures c.in_ok-judge_asked.was (header_in_lem _ c.requires.good.exact.header).borders_most_lem c.choose.ensures
