-- `why::why_good` meets its contract: the marks decide first, and then the border; each part of the room is as long as the header says, and what the lent table of p
-- holds beyond its front stays (`front-left`).
use Rattle.std.specs.Prelude.{Err}
use mathlib.Core.Path.{◌≡◌, refl, sym, ap, ◌∙◌}
use native.Mathlib.Nat.{mul-le-mul}
use native.Mathlib.Omega.{arith}
use borrow.Author.Rules.{rules}
use lib.Seq.{length-take-le}
use Rattle.marks.specs.Marks.{every, listed}
use Rattle.refusals.specs.Refusals.{Judged}
use Rattle.types.proofs.RangeLaws.{header_in_lem}
use Rattle.tablerules.specs.Table.{Table, lent_view, front}
use Rattle.why.specs.Why.{Why, judged_left}
use Rattle.why.proofs.WhyLaws.{left_refused, for_refused, for_no_border, for_passed, front_left}
use Rattle.why.proofs.why_good.Goals as goal

pub returns-in_err-judge_asked : goal.returns-in_err-judge_asked
returns-in_err-judge_asked c = let whole : Table = front (lent_view c.args.view.now) in
    let told : c.from_residual.result ≡ Err c.in_err-judge_asked.field-0.0 = search rules in
    rw told (left_refused _ _ _ (for_refused (every c.args.marks) (listed c.args.marks) (whole) c.args.border _ c.judge_asked.ensures c.in_err-judge_asked.was))

pub returns-then-borders-border : goal.returns-then-borders-border
returns-then-borders-border c = let whole : Table = front (lent_view c.args.view.now) in
    left_refused _ _ _ (for_no_border (every c.args.marks) (listed c.args.marks) whole c.args.border _ c.judge_asked.ensures c.in_ok-judge_asked.was c.if-borders-border.true)

pub overflow_mul-cells : goal.overflow_mul-cells
overflow_mul-cells c = omega (arith, mul-le-mul (header_in_lem _ c.requires.good.exact.header).rows_most_lem (header_in_lem _ c.requires.good.exact.header).borders_most_lem)

pub slice_bounds-flags-end : goal.slice_bounds-flags-end
slice_bounds-flags-end c = omega (arith, (header_in_lem _ c.requires.good.exact.header).borders_most_lem)

pub slice_bounds-why_in-end : goal.slice_bounds-why_in-end
slice_bounds-why_in-end c = sym (length-take-le _ _ (omega (arith, (header_in_lem _ c.requires.good.exact.header).borders_most_lem)))

pub slice_bounds-rams-end : goal.slice_bounds-rams-end
slice_bounds-rams-end c = (header_in_lem _ c.requires.good.exact.header).rows_most_lem

pub slice_bounds-why_in-end-2 : goal.slice_bounds-why_in-end-2
slice_bounds-why_in-end-2 c = sym (length-take-le _ _ (header_in_lem _ c.requires.good.exact.header).rows_most_lem)

pub slice_bounds-starts-end : goal.slice_bounds-starts-end
slice_bounds-starts-end c = (header_in_lem _ c.requires.good.exact.header).rows_most_lem

pub slice_bounds-why_in-end-3 : goal.slice_bounds-why_in-end-3
slice_bounds-why_in-end-3 c = sym (length-take-le _ _ (header_in_lem _ c.requires.good.exact.header).rows_most_lem)

pub slice_bounds-states-end : goal.slice_bounds-states-end
slice_bounds-states-end c = (header_in_lem _ c.requires.good.exact.header).rows_most_lem

pub slice_bounds-why_in-end-4 : goal.slice_bounds-why_in-end-4
slice_bounds-why_in-end-4 c = sym (length-take-le _ _ (header_in_lem _ c.requires.good.exact.header).rows_most_lem)

pub slice_bounds-margins-end : goal.slice_bounds-margins-end
slice_bounds-margins-end c = (header_in_lem _ c.requires.good.exact.header).rows_most_lem

pub slice_bounds-why_in-end-5 : goal.slice_bounds-why_in-end-5
slice_bounds-why_in-end-5 c = sym (length-take-le _ _ (header_in_lem _ c.requires.good.exact.header).rows_most_lem)

pub slice_bounds-why_in-end-6 : goal.slice_bounds-why_in-end-6
slice_bounds-why_in-end-6 c = c.requires.borders_in_bounds

pub slice_bounds-why_in-end-7 : goal.slice_bounds-why_in-end-7
slice_bounds-why_in-end-7 c = sym (length-take-le _ _ c.requires.borders_in_bounds)

pub why_in-requires : goal.why_in-requires
why_in-requires c = record { good = c.requires.good; flags_len = (length-take-le _ _ (omega (arith, (header_in_lem _ c.requires.good.exact.header).borders_most_lem)), c.if-borders-border.false); rams_len = (length-take-le _ _ (header_in_lem _ c.requires.good.exact.header).rows_most_lem, length-take-le _ _ (header_in_lem _ c.requires.good.exact.header).rows_most_lem); states_len = (length-take-le _ _ (header_in_lem _ c.requires.good.exact.header).rows_most_lem, length-take-le _ _ (header_in_lem _ c.requires.good.exact.header).rows_most_lem); p_len = length-take-le _ _ c.requires.borders_in_bounds }

pub returns : goal.returns
returns c = let whole : Table = front (lent_view c.args.view.now) in
    front_left _ _ _ _ refl c.args.p.now c.requires.borders_in_bounds _ _ c.why_in.ensures
    ∙ ap (λ (j : Judged Why). judged_left j c.args.p.now c.args.ends.now c.args.rows.now)
    (for_passed (every c.args.marks) (listed c.args.marks) (whole) c.args.border _ c.judge_asked.ensures c.in_ok-judge_asked.was c.if-borders-border.false (header_in_lem _ c.requires.good.exact.header).borders_most_lem c.choose.ensures)
