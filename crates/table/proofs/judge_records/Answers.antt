-- `table::judge_records` meets its contract: each search is a link of the definition's chain, and the first that found something decides.
use Rattle.std.specs.Prelude.{Err}
use mathlib.Core.Path.{sym, ap, ◌∙◌}
use Prim.Native.Nat.{ℕ, ◌+◌}
use native.Mathlib.Omega.{arith}
use borrow.Author.Tests.{not-true, not-false}
use Rattle.numbers.proofs.FirstLaws.{first_within}
use Rattle.refusals.specs.Refusals.{out_of_range}
use Rattle.types.proofs.RangeLaws.{header_in_lem, allocated_most}
use Rattle.tablerules.specs.Table.{header_line_no, zone_line_no}
use Rattle.tablerules.proofs.JudgeLaws.{exact_factors, allocated_within, zone_refused, allocated_refused, balance_refused, border_refused, row_refused, twice_refused, records_pass}
use Rattle.table.proofs.judge_records.Goals as goal

pub overflow_add-first_allocated : goal.overflow_add-first_allocated
overflow_add-first_allocated c = omega (arith, header_in_lem _ c.requires.header)

pub overflow_add-first_border : goal.overflow_add-first_border
overflow_add-first_border c = omega (arith, c.allocated_items-allocated.ensures, allocated_most c.args.view.now.header, header_in_lem _ c.requires.header)

pub overflow_add-first_row : goal.overflow_add-first_row
overflow_add-first_row c = omega (arith, c.allocated_items-allocated.ensures, allocated_most c.args.view.now.header, header_in_lem _ c.requires.header)

pub overflow_add-result : goal.overflow_add-result
overflow_add-result c = omega (arith, first_within _ _ (sym (c.in-Some.is) ∙ c.first_zone_out.ensures))

pub returns-in-Some : goal.returns-in-Some
returns-in-Some c = zone_refused _ c.requires _ (sym (c.in-Some.is) ∙ c.first_zone_out.ensures)

pub overflow_add-result-in-Some-first_zone_out : goal.overflow_add-result-in-Some-first_zone_out
overflow_add-result-in-Some-first_zone_out c = omega (arith, first_within _ _ (sym (c.in-Some-first_zone_out.is) ∙ c.first_zone_out-2.ensures), c.requires.allocated_long, allocated_most c.args.view.now.header, header_in_lem _ c.requires.header)

pub returns-in-Some-first_zone_out : goal.returns-in-Some-first_zone_out
returns-in-Some-first_zone_out c = allocated_refused _ c.requires (sym (c.in_default.is) ∙ c.first_zone_out.ensures) _ (sym (c.in-Some-first_zone_out.is) ∙ c.first_zone_out-2.ensures)

pub balanced-requires : goal.balanced-requires
balanced-requires c = allocated_within _ c.requires (sym (c.in_default-first_zone_out.is) ∙ c.first_zone_out-2.ensures)

pub overflow_add-result-then-not-balanced : goal.overflow_add-result-then-not-balanced
overflow_add-result-then-not-balanced c = omega (arith, header_in_lem _ c.requires.header)

pub overflow_add-result-then-not-balanced-2 : goal.overflow_add-result-then-not-balanced-2
overflow_add-result-then-not-balanced-2 c = omega (arith, c.allocated_items-allocated.ensures, allocated_most c.args.view.now.header, header_in_lem _ c.requires.header)

pub returns-then-not-balanced : goal.returns-then-not-balanced
returns-then-not-balanced c = ap Err (ap (λ (n : ℕ). out_of_range (header_line_no + c.args.view.now.header.zones + n)) c.allocated_items-allocated.ensures)
    ∙ balance_refused _ c.requires (sym (c.in_default.is) ∙ c.first_zone_out.ensures) (sym (c.in_default-first_zone_out.is) ∙ c.first_zone_out-2.ensures) (sym c.balanced.ensures ∙ not-true _ c.if-not-balanced.true-raw)

pub overflow_add-result-in-Some-first_border_out : goal.overflow_add-result-in-Some-first_border_out
overflow_add-result-in-Some-first_border_out c = omega (arith, first_within _ _ (sym (c.in-Some-first_border_out.is) ∙ c.first_border_out.ensures), c.allocated_items-allocated.ensures, allocated_most c.args.view.now.header, c.requires.borders_long, header_in_lem _ c.requires.header)

pub returns-in-Some-first_border_out : goal.returns-in-Some-first_border_out
returns-in-Some-first_border_out c = ap Err (ap (λ (n : ℕ). out_of_range (zone_line_no + c.args.view.now.header.zones + n + c.in-Some-first_border_out.i)) c.allocated_items-allocated.ensures)
    ∙ border_refused _ c.requires (sym (c.in_default.is) ∙ c.first_zone_out.ensures) (sym (c.in_default-first_zone_out.is) ∙ c.first_zone_out-2.ensures) (sym c.balanced.ensures ∙ not-false _ c.if-not-balanced.false-raw) _ (sym (c.in-Some-first_border_out.is) ∙ c.first_border_out.ensures)

pub first_row_out-requires : goal.first_row_out-requires
first_row_out-requires c = exact_factors _ c.requires

pub overflow_add-result-in-Some-first_row_out : goal.overflow_add-result-in-Some-first_row_out
overflow_add-result-in-Some-first_row_out c = omega (arith, first_within _ _ (sym (c.in-Some-first_row_out.is) ∙ c.first_row_out.ensures), c.allocated_items-allocated.ensures, allocated_most c.args.view.now.header, c.requires.rows_long, header_in_lem _ c.requires.header)

pub returns-in-Some-first_row_out : goal.returns-in-Some-first_row_out
returns-in-Some-first_row_out c = ap Err (ap (λ (n : ℕ). out_of_range (zone_line_no + c.args.view.now.header.zones + n + c.args.view.now.header.borders + c.in-Some-first_row_out.i)) c.allocated_items-allocated.ensures)
    ∙ row_refused _ c.requires (sym (c.in_default.is) ∙ c.first_zone_out.ensures) (sym (c.in_default-first_zone_out.is) ∙ c.first_zone_out-2.ensures) (sym c.balanced.ensures ∙ not-false _ c.if-not-balanced.false-raw) (sym (c.in_default-first_border_out.is) ∙ c.first_border_out.ensures) _ (sym (c.in-Some-first_row_out.is) ∙ c.first_row_out.ensures)

pub returns-in-Some-first_twice : goal.returns-in-Some-first_twice
returns-in-Some-first_twice c = twice_refused _ c.requires (sym (c.in_default.is) ∙ c.first_zone_out.ensures) (sym (c.in_default-first_zone_out.is) ∙ c.first_zone_out-2.ensures) (sym c.balanced.ensures ∙ not-false _ c.if-not-balanced.false-raw) (sym (c.in_default-first_border_out.is) ∙ c.first_border_out.ensures) (sym (c.in_default-first_row_out.is) ∙ c.first_row_out.ensures) _ (sym (c.in-Some-first_twice.is) ∙ c.first_twice.ensures)

pub returns : goal.returns
returns c = records_pass _ c.requires (sym (c.in_default.is) ∙ c.first_zone_out.ensures) (sym (c.in_default-first_zone_out.is) ∙ c.first_zone_out-2.ensures) (sym c.balanced.ensures ∙ not-false _ c.if-not-balanced.false-raw) (sym (c.in_default-first_border_out.is) ∙ c.first_border_out.ensures) (sym (c.in_default-first_row_out.is) ∙ c.first_row_out.ensures) (sym (c.in_default-first_twice.is) ∙ c.first_twice.ensures)
