-- `bound::bound_good` meets its contract: the marks decide first; then it is that of `bound_in`, each part of the room as long as the header says.
use Rattle.std.specs.Prelude.{Err}
use mathlib.Core.Path.{◌≡◌, sym, ◌∙◌}
use native.Mathlib.Nat.{mul-le-mul}
use native.Mathlib.Omega.{arith}
use borrow.Author.Rules.{rules}
use lib.Seq.{length-take-le}
use Rattle.marks.specs.Marks.{every, listed}
use Rattle.types.proofs.RangeLaws.{header_in_lem}
use Rattle.tablerules.specs.Table.{Table, lent_view, front}
use Rattle.boundrules.proofs.BoundLaws.{marks_refused, marks_passed}
use Rattle.bound.proofs.bound_good.Goals as goal

pub returns-in_err-judge_asked : goal.returns-in_err-judge_asked
returns-in_err-judge_asked c = let whole : Table = front (lent_view c.args.view.now) in
    let told : c.from_residual.result ≡ Err c.in_err-judge_asked.field-0.0 = search rules in
    rw told (marks_refused (every c.args.marks) (listed c.args.marks) (whole) _ c.judge_asked.ensures _ c.in_err-judge_asked.was)

pub overflow_mul-cells : goal.overflow_mul-cells
overflow_mul-cells c = omega (arith, mul-le-mul (header_in_lem _ c.requires.exact.header).rows_most_lem (header_in_lem _ c.requires.exact.header).borders_most_lem)

pub slice_bounds-flags-end : goal.slice_bounds-flags-end
slice_bounds-flags-end c = omega (arith, (header_in_lem _ c.requires.exact.header).borders_most_lem)

pub slice_bounds-bound_in-end : goal.slice_bounds-bound_in-end
slice_bounds-bound_in-end c = sym (length-take-le _ _ (omega (arith, (header_in_lem _ c.requires.exact.header).borders_most_lem)))

pub slice_bounds-rams-end : goal.slice_bounds-rams-end
slice_bounds-rams-end c = (header_in_lem _ c.requires.exact.header).rows_most_lem

pub slice_bounds-bound_in-end-2 : goal.slice_bounds-bound_in-end-2
slice_bounds-bound_in-end-2 c = sym (length-take-le _ _ (header_in_lem _ c.requires.exact.header).rows_most_lem)

pub slice_bounds-starts-end : goal.slice_bounds-starts-end
slice_bounds-starts-end c = (header_in_lem _ c.requires.exact.header).rows_most_lem

pub slice_bounds-bound_in-end-3 : goal.slice_bounds-bound_in-end-3
slice_bounds-bound_in-end-3 c = sym (length-take-le _ _ (header_in_lem _ c.requires.exact.header).rows_most_lem)

pub slice_bounds-states-end : goal.slice_bounds-states-end
slice_bounds-states-end c = (header_in_lem _ c.requires.exact.header).rows_most_lem

pub slice_bounds-bound_in-end-4 : goal.slice_bounds-bound_in-end-4
slice_bounds-bound_in-end-4 c = sym (length-take-le _ _ (header_in_lem _ c.requires.exact.header).rows_most_lem)

pub slice_bounds-margins-end : goal.slice_bounds-margins-end
slice_bounds-margins-end c = (header_in_lem _ c.requires.exact.header).rows_most_lem

pub slice_bounds-bound_in-end-5 : goal.slice_bounds-bound_in-end-5
slice_bounds-bound_in-end-5 c = sym (length-take-le _ _ (header_in_lem _ c.requires.exact.header).rows_most_lem)

pub slice_bounds-ns-end : goal.slice_bounds-ns-end
slice_bounds-ns-end c = (header_in_lem _ c.requires.exact.header).rows_most_lem

pub slice_bounds-bound_in-end-6 : goal.slice_bounds-bound_in-end-6
slice_bounds-bound_in-end-6 c = sym (length-take-le _ _ (header_in_lem _ c.requires.exact.header).rows_most_lem)

pub slice_bounds-p-end : goal.slice_bounds-p-end
slice_bounds-p-end c = mul-le-mul (header_in_lem _ c.requires.exact.header).rows_most_lem (header_in_lem _ c.requires.exact.header).borders_most_lem

pub slice_bounds-bound_in-end-7 : goal.slice_bounds-bound_in-end-7
slice_bounds-bound_in-end-7 c = sym (length-take-le _ _ (mul-le-mul (header_in_lem _ c.requires.exact.header).rows_most_lem (header_in_lem _ c.requires.exact.header).borders_most_lem))

pub bound_in-requires : goal.bound_in-requires
bound_in-requires c = let rows = (header_in_lem _ c.requires.exact.header).rows_most_lem in record { good = c.requires; flags_len = length-take-le _ _ (omega (arith, (header_in_lem _ c.requires.exact.header).borders_most_lem)); rams_len = (length-take-le _ _ rows, length-take-le _ _ rows); states_len = (length-take-le _ _ rows, length-take-le _ _ rows); ns_len = (length-take-le _ _ rows, length-take-le _ _ (mul-le-mul (header_in_lem _ c.requires.exact.header).rows_most_lem (header_in_lem _ c.requires.exact.header).borders_most_lem)) }

pub returns : goal.returns
returns c = let whole : Table = front (lent_view c.args.view.now) in
    c.bound_in.ensures
    ∙ marks_passed (every c.args.marks) (listed c.args.marks) (whole) _ c.judge_asked.ensures c.in_ok-judge_asked.was (header_in_lem _ c.requires.exact.header).borders_most_lem c.chosen-flags.ensures
