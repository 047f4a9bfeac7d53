-- `table::judge` meets its contract: header and lengths, room for p, and then the records of the front parts, each as long as the header says.
use mathlib.Core.Path.{◌≡◌, sym, ◌∙◌}
use borrow.Author.Rules.{rules}
use native.Mathlib.Omega.{arith}
use Rattle.tablerules.proofs.RoomLaws.{factors_most}
use Rattle.tablerules.proofs.JudgeLaws.{lent_refused, front_exact, p_refused, records_left}
use Rattle.tablerules.proofs.GoodLaws.{refused_in, records_in}
use Rattle.table.proofs.judge.Goals as goal

pub returns-in_err-judge_shape : goal.returns-in_err-judge_shape
returns-in_err-judge_shape c =
    let told : c.from_residual.result ≡ c.judge_shape.result = search rules in
    rw told (record { f_value = lent_refused _ _ c.judge_shape.ensures _ _ c.in_err-judge_shape.was; good_in = refused_in _ _ c.in_err-judge_shape.was })

pub judge_p-requires : goal.judge_p-requires
judge_p-requires c = (front_exact _ _ c.judge_shape.ensures c.in_ok-judge_shape.was).header

pub returns-in_err-judge_p : goal.returns-in_err-judge_p
returns-in_err-judge_p c =
    let told : c.from_residual-in_err-judge_p.result ≡ c.judge_p.result = search rules in
    rw told (record { f_value = p_refused _ _ c.judge_shape.ensures c.in_ok-judge_shape.was _ _ c.judge_p.ensures _ c.in_err-judge_p.was; good_in = refused_in _ _ c.in_err-judge_p.was })

pub slice_bounds-judge_records-end : goal.slice_bounds-judge_records-end
slice_bounds-judge_records-end c = sym (front_exact _ _ c.judge_shape.ensures c.in_ok-judge_shape.was).nets_long

pub slice_bounds-judge_records-end-2 : goal.slice_bounds-judge_records-end-2
slice_bounds-judge_records-end-2 c = rw c.allocated_items-allocated.ensures (sym (front_exact _ _ c.judge_shape.ensures c.in_ok-judge_shape.was).allocated_long)

pub slice_bounds-judge_records-end-3 : goal.slice_bounds-judge_records-end-3
slice_bounds-judge_records-end-3 c = sym (front_exact _ _ c.judge_shape.ensures c.in_ok-judge_shape.was).borders_long

pub slice_bounds-judge_records-end-4 : goal.slice_bounds-judge_records-end-4
slice_bounds-judge_records-end-4 c = sym (front_exact _ _ c.judge_shape.ensures c.in_ok-judge_shape.was).rows_long

pub overflow_mul-header : goal.overflow_mul-header
overflow_mul-header c = omega (arith, factors_most _ (front_exact _ _ c.judge_shape.ensures c.in_ok-judge_shape.was).header)

pub slice_bounds-judge_records-end-5 : goal.slice_bounds-judge_records-end-5
slice_bounds-judge_records-end-5 c = sym (front_exact _ _ c.judge_shape.ensures c.in_ok-judge_shape.was).factors_long

pub judge_records-requires : goal.judge_records-requires
judge_records-requires c = rw c.allocated_items-allocated.ensures (front_exact _ _ c.judge_shape.ensures c.in_ok-judge_shape.was)

pub returns : goal.returns
returns c = let said = rw c.allocated_items-allocated.ensures at c.judge_records.ensures in record { f_value = said ∙ sym (records_left _ _ c.judge_shape.ensures c.in_ok-judge_shape.was _ _ c.judge_p.ensures c.in_ok-judge_p.was); good_in = records_in _ (front_exact _ _ c.judge_shape.ensures c.in_ok-judge_shape.was) c.judge_records.result said }
