-- `cornertext::corner_text_good` meets its contract: the flows in working memory, which has room for every sheet, and then their text.
use Rattle.std.proofs.lemmas.Result.{err_from_is_err_and}
use mathlib.Core.Path.{sym, ◌∙◌}
use native.Mathlib.Nat.{le_refl}
use lib.Seq.{length-take-le}
use Rattle.tablerules.specs.Table.{lent_view, front}
use Rattle.cornertext.specs.CornerText.{sheet_most}
use Rattle.cornertext.proofs.CornerTextLaws.{FlowsTold, told_refused, told_passed, text_on}
use Rattle.cornertext.proofs.corner_text_good.Goals as goal

pub slice_bounds-flows-end : goal.slice_bounds-flows-end
slice_bounds-flows-end c = let whole = front (lent_view c.args.view.now) in
    let count = c.in_ok-count.count in
    let told : FlowsTold whole c.args.row count c.corner_flows_good.new.out = told_passed whole c.args.row c.requires _ _ c.corner_flows_good.ensures (le_refl sheet_most) count c.in_ok-count.was in
    told.long

pub slice_bounds-write_corners-end : goal.slice_bounds-write_corners-end
slice_bounds-write_corners-end c = let whole = front (lent_view c.args.view.now) in
    let count = c.in_ok-count.count in
    let told : FlowsTold whole c.args.row count c.corner_flows_good.new.out = told_passed whole c.args.row c.requires _ _ c.corner_flows_good.ensures (le_refl sheet_most) count c.in_ok-count.was in
    sym (length-take-le _ _ told.long)

pub write_corners-requires : goal.write_corners-requires
write_corners-requires c = let count = c.in_ok-count.count in
    let whole = front (lent_view c.args.view.now) in
    let told : FlowsTold whole c.args.row count c.corner_flows_good.new.out = told_passed whole c.args.row c.requires _ _ c.corner_flows_good.ensures (le_refl sheet_most) count c.in_ok-count.was in
    rw (length-take-le count _ told.long) told.few

pub returns-in_err-count : goal.returns-in_err-count
returns-in_err-count c =
    let p = err_from_is_err_and c.from_residual.result c.from_residual.ensures.1 in
    rw (p.1, p.2) (let whole = front (lent_view c.args.view.now) in
    told_refused whole c.args.row c.requires _ _ c.corner_flows_good.ensures (le_refl sheet_most) c.args.out.now _ c.in_err-count.was)

pub returns : goal.returns
returns c = let whole = front (lent_view c.args.view.now) in
    let count = c.in_ok-count.count in
    let told : FlowsTold whole c.args.row count c.corner_flows_good.new.out = told_passed whole c.args.row c.requires _ _ c.corner_flows_good.ensures (le_refl sheet_most) count c.in_ok-count.was in
    c.write_corners.ensures ∙ text_on whole c.args.row c.args.out.now told
