-- `reading::into::read_allocated` meets its contract: a refused T line decides, or their sum, or else the lines after them.
use Rattle.std.specs.Prelude.{Err}
use mathlib.Core.Path.{◌≡◌, sym, ap, ap₂, subst, ◌∙◌}
use mathlib.Core.List.{◌++◌}
use Prim.Native.Nat.{ℕ, ◌+◌, ◌≤◌}
use native.Mathlib.Omega.{arith}
use Rattle.std.proofs.lemmas.Result.{err_from_is_err_and}
use borrow.Author.Tests.{not-true, not-false}
use lib.ListN.{length, take, drop}
use lib.Seq.{length-take-le, length_front, take_at}
use Rattle.numbers.specs.Ints.{AllWithin}
use Rattle.limits.specs.Limits.{zones_most}
use Rattle.refusals.specs.Refusals.{out_of_range_at, Judged}
use Rattle.types.specs.LineLimits.{net_most}
use Rattle.types.proofs.RangeLaws.{allocated_most}
use Rattle.lines.specs.Lines.{allocated_line}
use Rattle.sections.specs.Section.{read, lines_at}
use Rattle.sections.specs.Stored.{stored_section}
use Rattle.tablerules.specs.Table.{balanced, header_line_no, allocated_line_no}
use Rattle.reading.proofs.JudgedTextLaws.{section_lent, room_t, netted, allocated_section, allocated_refused, allocated_held, unbalanced, allocated_passed}
use Rattle.reading.proofs.into.read_allocated.Goals as goal

pub overflow_add-first : goal.overflow_add-first
overflow_add-first c = let h = netted c.requires.netted in omega (arith, h.zones_most_lem)

pub slice_bounds-zones_read-end : goal.slice_bounds-zones_read-end
slice_bounds-zones_read-end c =
    let h = netted c.requires.netted in omega (arith, c.allocated_items-items.ensures, allocated_most c.args.h, h.zones_most_lem, c.requires.roomy.allocated)

pub slice_bounds-zones_read-end-2 : goal.slice_bounds-zones_read-end-2
slice_bounds-zones_read-end-2 c =
    let few : (c.allocated_items-items.result ≤ c.args.h.zones) × (c.args.h.zones ≤ zones_most) × (c.allocated_items-items.result ≤ length c.args.t.now) = let h = netted c.requires.netted in (omega (arith, c.allocated_items-items.ensures, allocated_most c.args.h), h.zones_most_lem, omega (arith, c.allocated_items-items.ensures, allocated_most c.args.h, h.zones_most_lem, c.requires.roomy.allocated)) in
    sym (length-take-le _ _ (few).2)

pub zones_read-requires : goal.zones_read-requires
zones_read-requires c =
    let few : (c.allocated_items-items.result ≤ c.args.h.zones) × (c.args.h.zones ≤ zones_most) × (c.allocated_items-items.result ≤ length c.args.t.now) = let h = netted c.requires.netted in (omega (arith, c.allocated_items-items.ensures, allocated_most c.args.h), h.zones_most_lem, omega (arith, c.allocated_items-items.ensures, allocated_most c.args.h, h.zones_most_lem, c.requires.roomy.allocated)) in
    let n = few in (c.requires.netted.within, omega (arith, n, length-take-le _ c.args.t.now n.2))

pub slice_bounds-balanced-end : goal.slice_bounds-balanced-end
slice_bounds-balanced-end c =
    let few : (c.allocated_items-items.result ≤ c.args.h.zones) × (c.args.h.zones ≤ zones_most) × (c.allocated_items-items.result ≤ length c.args.t.now) = let h = netted c.requires.netted in (omega (arith, c.allocated_items-items.ensures, allocated_most c.args.h), h.zones_most_lem, omega (arith, c.allocated_items-items.ensures, allocated_most c.args.h, h.zones_most_lem, c.requires.roomy.allocated)) in
    omega (arith, (few).2, length_front c.args.t.now c.zones_read.new.z c.allocated_items-items.result c.zones_read.auto.z)

pub slice_bounds-balanced-end-2 : goal.slice_bounds-balanced-end-2
slice_bounds-balanced-end-2 c =
    let front-is : take c.allocated_items-items.result (c.zones_read.new.z ++ drop c.allocated_items-items.result c.args.t.now) ≡ c.zones_read.new.z = let few : (c.allocated_items-items.result ≤ c.args.h.zones) × (c.args.h.zones ≤ zones_most) × (c.allocated_items-items.result ≤ length c.args.t.now) = let h = netted c.requires.netted in (omega (arith, c.allocated_items-items.ensures, allocated_most c.args.h), h.zones_most_lem, omega (arith, c.allocated_items-items.ensures, allocated_most c.args.h, h.zones_most_lem, c.requires.roomy.allocated)) in take_at _ _ c.allocated_items-items.result (c.zones_read.auto.z ∙ length-take-le c.allocated_items-items.result _ (few).2) in
    let few : (c.allocated_items-items.result ≤ c.args.h.zones) × (c.args.h.zones ≤ zones_most) × (c.allocated_items-items.result ≤ length c.args.t.now) = let h = netted c.requires.netted in (omega (arith, c.allocated_items-items.ensures, allocated_most c.args.h), h.zones_most_lem, omega (arith, c.allocated_items-items.ensures, allocated_most c.args.h, h.zones_most_lem, c.requires.roomy.allocated)) in
    sym (ap length (front-is) ∙ c.zones_read.auto.z ∙ length-take-le c.allocated_items-items.result _ (few).2)

pub balanced-requires : goal.balanced-requires
balanced-requires c =
    let read-section : read c.zones_read.new.z c.in_ok-end.end ≡ allocated_section c.args.text.now c.args.h c.args.at = let few : (c.allocated_items-items.result ≤ c.args.h.zones) × (c.args.h.zones ≤ zones_most) × (c.allocated_items-items.result ≤ length c.args.t.now) = let h = netted c.requires.netted in (omega (arith, c.allocated_items-items.ensures, allocated_most c.args.h), h.zones_most_lem, omega (arith, c.allocated_items-items.ensures, allocated_most c.args.h, h.zones_most_lem, c.requires.roomy.allocated)) in let section : stored_section c.zones_read.result c.zones_read.new.z ≡ allocated_section c.args.text.now c.args.h c.args.at = c.zones_read.ensures ∙ section_lent allocated_line (allocated_line_no c.args.h) c.allocated_items-items.result c.args.text.now c.args.at c.args.t.now (few).2 ∙ ap (λ (k : ℕ). lines_at allocated_line (allocated_line_no c.args.h) k c.args.text.now c.args.at 0) c.allocated_items-items.ensures in sym (ap (λ (r : Judged ℕ). stored_section r c.zones_read.new.z) c.in_ok-end.was) ∙ section in
    let front-is : take c.allocated_items-items.result (c.zones_read.new.z ++ drop c.allocated_items-items.result c.args.t.now) ≡ c.zones_read.new.z = let few : (c.allocated_items-items.result ≤ c.args.h.zones) × (c.args.h.zones ≤ zones_most) × (c.allocated_items-items.result ≤ length c.args.t.now) = let h = netted c.requires.netted in (omega (arith, c.allocated_items-items.ensures, allocated_most c.args.h), h.zones_most_lem, omega (arith, c.allocated_items-items.ensures, allocated_most c.args.h, h.zones_most_lem, c.requires.roomy.allocated)) in take_at _ _ c.allocated_items-items.result (c.zones_read.auto.z ∙ length-take-le c.allocated_items-items.result _ (few).2) in
    let few : (c.allocated_items-items.result ≤ c.args.h.zones) × (c.args.h.zones ≤ zones_most) × (c.allocated_items-items.result ≤ length c.args.t.now) = let h = netted c.requires.netted in (omega (arith, c.allocated_items-items.ensures, allocated_most c.args.h), h.zones_most_lem, omega (arith, c.allocated_items-items.ensures, allocated_most c.args.h, h.zones_most_lem, c.requires.roomy.allocated)) in
    let held = allocated_held c.requires.netted _ _ (read-section) in
    let n = few in
    (omega (arith, ap length (front-is), held.0, allocated_most c.args.h, n), subst (AllWithin net_most) (sym (front-is)) held.1)

pub overflow_add-last : goal.overflow_add-last
overflow_add-last c =
    let few : (c.allocated_items-items.result ≤ c.args.h.zones) × (c.args.h.zones ≤ zones_most) × (c.allocated_items-items.result ≤ length c.args.t.now) = let h = netted c.requires.netted in (omega (arith, c.allocated_items-items.ensures, allocated_most c.args.h), h.zones_most_lem, omega (arith, c.allocated_items-items.ensures, allocated_most c.args.h, h.zones_most_lem, c.requires.roomy.allocated)) in
    let n = few in omega (arith, n)

pub overflow_add-last-then-not-balanced : goal.overflow_add-last-then-not-balanced
overflow_add-last-then-not-balanced c =
    let few : (c.allocated_items-items.result ≤ c.args.h.zones) × (c.args.h.zones ≤ zones_most) × (c.allocated_items-items.result ≤ length c.args.t.now) = let h = netted c.requires.netted in (omega (arith, c.allocated_items-items.ensures, allocated_most c.args.h), h.zones_most_lem, omega (arith, c.allocated_items-items.ensures, allocated_most c.args.h, h.zones_most_lem, c.requires.roomy.allocated)) in
    let n = few in omega (arith, n)

pub returns-then-not-balanced : goal.returns-then-not-balanced
returns-then-not-balanced c =
    let read-section : read c.zones_read.new.z c.in_ok-end.end ≡ allocated_section c.args.text.now c.args.h c.args.at = let few : (c.allocated_items-items.result ≤ c.args.h.zones) × (c.args.h.zones ≤ zones_most) × (c.allocated_items-items.result ≤ length c.args.t.now) = let h = netted c.requires.netted in (omega (arith, c.allocated_items-items.ensures, allocated_most c.args.h), h.zones_most_lem, omega (arith, c.allocated_items-items.ensures, allocated_most c.args.h, h.zones_most_lem, c.requires.roomy.allocated)) in let section : stored_section c.zones_read.result c.zones_read.new.z ≡ allocated_section c.args.text.now c.args.h c.args.at = c.zones_read.ensures ∙ section_lent allocated_line (allocated_line_no c.args.h) c.allocated_items-items.result c.args.text.now c.args.at c.args.t.now (few).2 ∙ ap (λ (k : ℕ). lines_at allocated_line (allocated_line_no c.args.h) k c.args.text.now c.args.at 0) c.allocated_items-items.ensures in sym (ap (λ (r : Judged ℕ). stored_section r c.zones_read.new.z) c.in_ok-end.was) ∙ section in
    let front-is : take c.allocated_items-items.result (c.zones_read.new.z ++ drop c.allocated_items-items.result c.args.t.now) ≡ c.zones_read.new.z = let few : (c.allocated_items-items.result ≤ c.args.h.zones) × (c.args.h.zones ≤ zones_most) × (c.allocated_items-items.result ≤ length c.args.t.now) = let h = netted c.requires.netted in (omega (arith, c.allocated_items-items.ensures, allocated_most c.args.h), h.zones_most_lem, omega (arith, c.allocated_items-items.ensures, allocated_most c.args.h, h.zones_most_lem, c.requires.roomy.allocated)) in take_at _ _ c.allocated_items-items.result (c.zones_read.auto.z ∙ length-take-le c.allocated_items-items.result _ (few).2) in
    ap Err (ap₂ (λ (n byte : ℕ). out_of_range_at (header_line_no + c.args.h.zones + n) byte) c.allocated_items-items.ensures c.balance_byte.ensures)
    ∙ unbalanced c.requires.netted _ _ (read-section) c.args.sheet.now (sym (c.balanced.ensures ∙ ap balanced (front-is)) ∙ not-true _ c.if-not-balanced.true-raw)

pub read_borders-requires : goal.read_borders-requires
read_borders-requires c =
    let read-section : read c.zones_read.new.z c.in_ok-end.end ≡ allocated_section c.args.text.now c.args.h c.args.at = let few : (c.allocated_items-items.result ≤ c.args.h.zones) × (c.args.h.zones ≤ zones_most) × (c.allocated_items-items.result ≤ length c.args.t.now) = let h = netted c.requires.netted in (omega (arith, c.allocated_items-items.ensures, allocated_most c.args.h), h.zones_most_lem, omega (arith, c.allocated_items-items.ensures, allocated_most c.args.h, h.zones_most_lem, c.requires.roomy.allocated)) in let section : stored_section c.zones_read.result c.zones_read.new.z ≡ allocated_section c.args.text.now c.args.h c.args.at = c.zones_read.ensures ∙ section_lent allocated_line (allocated_line_no c.args.h) c.allocated_items-items.result c.args.text.now c.args.at c.args.t.now (few).2 ∙ ap (λ (k : ℕ). lines_at allocated_line (allocated_line_no c.args.h) k c.args.text.now c.args.at 0) c.allocated_items-items.ensures in sym (ap (λ (r : Judged ℕ). stored_section r c.zones_read.new.z) c.in_ok-end.was) ∙ section in
    let front-is : take c.allocated_items-items.result (c.zones_read.new.z ++ drop c.allocated_items-items.result c.args.t.now) ≡ c.zones_read.new.z = let few : (c.allocated_items-items.result ≤ c.args.h.zones) × (c.args.h.zones ≤ zones_most) × (c.allocated_items-items.result ≤ length c.args.t.now) = let h = netted c.requires.netted in (omega (arith, c.allocated_items-items.ensures, allocated_most c.args.h), h.zones_most_lem, omega (arith, c.allocated_items-items.ensures, allocated_most c.args.h, h.zones_most_lem, c.requires.roomy.allocated)) in take_at _ _ c.allocated_items-items.result (c.zones_read.auto.z ∙ length-take-le c.allocated_items-items.result _ (few).2) in
    record { allocated = allocated_passed c.requires.netted _ _ (read-section) (drop c.allocated_items-items.result c.args.t.now) (sym (c.balanced.ensures ∙ ap balanced (front-is)) ∙ not-false _ c.if-not-balanced.false-raw); roomy = room_t c.requires.roomy c.allocated_items-items.result c.zones_read.new.z c.zones_read.auto.z }

pub returns-in_err-end : goal.returns-in_err-end
returns-in_err-end c =
    let few : (c.allocated_items-items.result ≤ c.args.h.zones) × (c.args.h.zones ≤ zones_most) × (c.allocated_items-items.result ≤ length c.args.t.now) = let h = netted c.requires.netted in (omega (arith, c.allocated_items-items.ensures, allocated_most c.args.h), h.zones_most_lem, omega (arith, c.allocated_items-items.ensures, allocated_most c.args.h, h.zones_most_lem, c.requires.roomy.allocated)) in
    let section : stored_section c.zones_read.result c.zones_read.new.z ≡ allocated_section c.args.text.now c.args.h c.args.at = c.zones_read.ensures
    ∙ section_lent allocated_line (allocated_line_no c.args.h) c.allocated_items-items.result c.args.text.now c.args.at c.args.t.now (few).2
    ∙ ap (λ (k : ℕ). lines_at allocated_line (allocated_line_no c.args.h) k c.args.text.now c.args.at 0) c.allocated_items-items.ensures in
    let p = err_from_is_err_and c.from_residual.result c.from_residual.ensures.1 in
    rw (p.1, p.2) (allocated_refused c.requires.netted c.args.sheet.now _ (sym (ap (λ (r : Judged ℕ). stored_section r c.zones_read.new.z) c.in_err-end.was) ∙ section))
