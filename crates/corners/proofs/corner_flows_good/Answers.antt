-- `corners::corner_flows_good` meets its contract: what has no sheet is refused, then room that is too short, and else the sheet of the front parts is listed.
use mathlib.Core.Path.{sym}
use native.Mathlib.Omega.{arith}
use Rattle.tablerules.specs.Table.{lent_view, front}
use Rattle.tablerules.proofs.RoomLaws.{factors_most}
use Rattle.marginrules.proofs.JudgedLaws.{good_factors, good_borders}
use Rattle.cornerrules.proofs.SheetLaws.{Sheet, borders_refused, row_refused, sheet_passed, sheet_refused, sheet_short, sheet_listed}
use Rattle.corners.proofs.corner_flows_good.Goals as goal

pub returns-then-h-gt-BORDERS_MOST : goal.returns-then-h-gt-BORDERS_MOST
returns-then-h-gt-BORDERS_MOST c =
    let whole = front (lent_view c.args.view.now) in
    (sym (sheet_refused _ c.args.row c.args.out.now _ (borders_refused whole c.args.row (omega arith))))

pub returns-then-h-row : goal.returns-then-h-row
returns-then-h-row c =
    let whole = front (lent_view c.args.view.now) in
    (sym (sheet_refused _ c.args.row c.args.out.now _ (row_refused whole c.args.row (omega arith) (omega arith))))

pub returns-then-out-needed : goal.returns-then-out-needed
returns-then-out-needed c =
    let whole = front (lent_view c.args.view.now) in
    let sheet : Sheet whole c.args.row = record { good = c.requires; few = omega arith; has = omega arith } in
    (sym (sheet_short _ c.args.row c.args.out.now whole (sheet_passed whole c.args.row sheet) sheet _ c.corner_count-needed.ensures (omega arith)))

pub overflow_mul-factors : goal.overflow_mul-factors
overflow_mul-factors c = omega (arith, factors_most _ c.requires.exact.header)

pub list_row-requires : goal.list_row-requires
list_row-requires c =
    let whole = front (lent_view c.args.view.now) in
    let sheet : Sheet whole c.args.row = record { good = c.requires; few = omega arith; has = omega arith } in
    record { table_factors_in_range = good_factors sheet.good; borders_in_range = good_borders sheet.good; b_len_bound = omega (arith, sheet.good.exact.borders_long, sheet.few); row_lt_rows = sheet.has; b_in_bounds = rw sheet.good.exact.borders_long (omega (arith, c.corner_count-needed.ensures)) }

pub returns : goal.returns
returns c =
    let whole = front (lent_view c.args.view.now) in
    let sheet : Sheet whole c.args.row = record { good = c.requires; few = omega arith; has = omega arith } in
    sheet_listed _ c.args.row c.args.out.now whole (sheet_passed whole c.args.row sheet) sheet (omega (arith, c.corner_count-needed.ensures)) c.list_row.ensures
