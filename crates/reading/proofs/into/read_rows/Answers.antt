-- `reading::into::read_rows` meets its contract: a refused C line decides, or what follows the last one, or what is judged after it; one law of `JudgedTextLaws` for each.
use Rattle.std.specs.Prelude.{Err}
use mathlib.Core.Path.{◌≡◌, sym, ap, ap₂, ◌∙◌}
use mathlib.Core.List.{List}
use Prim.Native.Nat.{ℕ, ◌+◌, ◌*◌, ◌≤◌}
use native.Mathlib.Omega.{arith}
use Rattle.std.proofs.lemmas.Result.{err_from_is_err_and}
use lib.ListN.{length, drop}
use lib.Seq.{length-take-le}
use Rattle.refusals.specs.Refusals.{wrong_form, Judged}
use Rattle.types.proofs.RangeLaws.{header_in_lem, allocated_most}
use Rattle.corrections.specs.Corrections.{judge_corrections}
use Rattle.rowlines.specs.Rows.{cut}
use Rattle.sections.specs.Stored.{stored_section}
use Rattle.tablerules.specs.Table.{zone_line_no}
use Rattle.tablerules.proofs.RoomLaws.{factors_most}
use Rattle.reading.proofs.JudgedTextLaws.{used_good, rows_section, rows_lent, rows_refused, more_follows, lines_done}
use Rattle.reading.proofs.into.read_rows.Goals as goal

pub overflow_add-first : goal.overflow_add-first
overflow_add-first c = omega (arith, header_in_lem _ c.requires.bordered.fits)

pub overflow_add-first-2 : goal.overflow_add-first-2
overflow_add-first-2 c = omega (arith, header_in_lem _ c.requires.bordered.fits, c.allocated_items.ensures, allocated_most c.args.h)

pub overflow_add-first-3 : goal.overflow_add-first-3
overflow_add-first-3 c = omega (arith, header_in_lem _ c.requires.bordered.fits, c.allocated_items.ensures, allocated_most c.args.h)

pub sheet_judged-held-requires : goal.sheet_judged-held-requires
sheet_judged-held-requires c = let h = header_in_lem _ c.requires.bordered.fits in (omega (arith, h.zones_least_lem), h.zones_most_lem)

pub slice_bounds-rows_read-end : goal.slice_bounds-rows_read-end
slice_bounds-rows_read-end c = let room-c : c.args.h.rows ≤ length c.args.c.now = omega (arith, (header_in_lem _ c.requires.bordered.fits).rows_most_lem, c.requires.roomy.rows) in
    room-c

pub slice_bounds-rows_read-end-2 : goal.slice_bounds-rows_read-end-2
slice_bounds-rows_read-end-2 c = let room-c : c.args.h.rows ≤ length c.args.c.now = omega (arith, (header_in_lem _ c.requires.bordered.fits).rows_most_lem, c.requires.roomy.rows) in
    sym (length-take-le _ _ (room-c))

pub overflow_mul-h : goal.overflow_mul-h
overflow_mul-h c = omega (arith, factors_most _ c.requires.bordered.fits)

pub slice_bounds-rows_read-end-3 : goal.slice_bounds-rows_read-end-3
slice_bounds-rows_read-end-3 c = let room-f : c.args.h.rows * c.args.h.zones ≤ length c.args.f.now = omega (arith, factors_most _ c.requires.bordered.fits, c.requires.roomy.factors) in
    room-f

pub slice_bounds-rows_read-end-4 : goal.slice_bounds-rows_read-end-4
slice_bounds-rows_read-end-4 c = let room-f : c.args.h.rows * c.args.h.zones ≤ length c.args.f.now = omega (arith, factors_most _ c.requires.bordered.fits, c.requires.roomy.factors) in
    sym (length-take-le _ _ (room-f))

pub rows_read-requires : goal.rows_read-requires
rows_read-requires c = let room-c : c.args.h.rows ≤ length c.args.c.now = omega (arith, (header_in_lem _ c.requires.bordered.fits).rows_most_lem, c.requires.roomy.rows) in
    let room-f : c.args.h.rows * c.args.h.zones ≤ length c.args.f.now = omega (arith, factors_most _ c.requires.bordered.fits, c.requires.roomy.factors) in
    let h = header_in_lem _ c.requires.bordered.fits in
    let long = length-take-le c.args.h.rows c.args.c.now (room-c) in record { at_in_bounds = (c.requires.bordered.within, omega (arith, h, c.allocated_items.ensures, allocated_most c.args.h, long), length-take-le _ c.args.f.now (room-f) ∙ ap (λ (n : ℕ). n * c.args.h.zones) (sym long), omega (arith, h.zones_least_lem), h.zones_most_lem); sheet_value = ap₂ (λ (n : ℕ) (l : List ℕ). judge_corrections c.args.h.zones n l) long c.used_of-used.ensures ∙ used_good c.args.h.zones c.args.h.rows c.args.sheet.now c.sheet_judged-held.result c.sheet_judged-held.ensures }

pub overflow_add-result : goal.overflow_add-result
overflow_add-result c = omega (arith, header_in_lem _ c.requires.bordered.fits, c.allocated_items.ensures, allocated_most c.args.h)

pub returns-then-end-text : goal.returns-then-end-text
returns-then-end-text c = let room-c : c.args.h.rows ≤ length c.args.c.now = omega (arith, (header_in_lem _ c.requires.bordered.fits).rows_most_lem, c.requires.roomy.rows) in
    let section : stored_section c.rows_read.result (cut c.args.h.zones c.rows_read.new.c c.rows_read.new.f) ≡ rows_section c.requires.bordered c.args.sheet.now c.sheet_judged-held.result c.sheet_judged-held.ensures = c.rows_read.ensures
    ∙ rows_lent c.requires.bordered c.args.sheet.now c.sheet_judged-held.result c.sheet_judged-held.ensures _ _ _
    (ap (λ (n : ℕ). zone_line_no + c.args.h.zones + n + c.args.h.borders) c.allocated_items.ensures) (length-take-le c.args.h.rows c.args.c.now (room-c)) c.used_of-used.ensures in
    ap Err (ap (λ (n : ℕ). wrong_form (zone_line_no + c.args.h.zones + n + c.args.h.borders + c.args.h.rows)) c.allocated_items.ensures)
    ∙ more_follows c.requires.bordered c.args.sheet.now c.sheet_judged-held.result c.sheet_judged-held.ensures c.rows_read.new.c c.rows_read.new.f _
    (sym (ap (λ (r : Judged ℕ). stored_section r (cut c.args.h.zones c.rows_read.new.c c.rows_read.new.f)) c.in_ok-end.was) ∙ section) c.if-end-text.true

pub judged_last-requires : goal.judged_last-requires
judged_last-requires c = (c.requires.bordered.fits, c.requires.roomy.borders)

pub returns : goal.returns
returns c = let room-f : c.args.h.rows * c.args.h.zones ≤ length c.args.f.now = omega (arith, factors_most _ c.requires.bordered.fits, c.requires.roomy.factors) in
    let room-c : c.args.h.rows ≤ length c.args.c.now = omega (arith, (header_in_lem _ c.requires.bordered.fits).rows_most_lem, c.requires.roomy.rows) in
    let section : stored_section c.rows_read.result (cut c.args.h.zones c.rows_read.new.c c.rows_read.new.f) ≡ rows_section c.requires.bordered c.args.sheet.now c.sheet_judged-held.result c.sheet_judged-held.ensures = c.rows_read.ensures
    ∙ rows_lent c.requires.bordered c.args.sheet.now c.sheet_judged-held.result c.sheet_judged-held.ensures _ _ _
    (ap (λ (n : ℕ). zone_line_no + c.args.h.zones + n + c.args.h.borders) c.allocated_items.ensures) (length-take-le c.args.h.rows c.args.c.now (room-c)) c.used_of-used.ensures in
    lines_done c.requires.bordered c.args.sheet.now c.sheet_judged-held.result c.sheet_judged-held.ensures c.rows_read.new.c c.rows_read.new.f _
    (sym (ap (λ (r : Judged ℕ). stored_section r (cut c.args.h.zones c.rows_read.new.c c.rows_read.new.f)) c.in_ok-end.was) ∙ section) c.if-end-text.false
    (c.rows_read.auto.f ∙ length-take-le _ c.args.f.now (room-f)) c.judged_last.result (drop c.args.h.rows c.args.c.now) (drop (c.args.h.rows * c.args.h.zones) c.args.f.now) c.judged_last.ensures

pub returns-in_err-end : goal.returns-in_err-end
returns-in_err-end c = let room-c : c.args.h.rows ≤ length c.args.c.now = omega (arith, (header_in_lem _ c.requires.bordered.fits).rows_most_lem, c.requires.roomy.rows) in
    let section : stored_section c.rows_read.result (cut c.args.h.zones c.rows_read.new.c c.rows_read.new.f) ≡ rows_section c.requires.bordered c.args.sheet.now c.sheet_judged-held.result c.sheet_judged-held.ensures = c.rows_read.ensures
    ∙ rows_lent c.requires.bordered c.args.sheet.now c.sheet_judged-held.result c.sheet_judged-held.ensures _ _ _
    (ap (λ (n : ℕ). zone_line_no + c.args.h.zones + n + c.args.h.borders) c.allocated_items.ensures) (length-take-le c.args.h.rows c.args.c.now (room-c)) c.used_of-used.ensures in
    let p = err_from_is_err_and c.from_residual.result c.from_residual.ensures.1 in
    rw (p.1, p.2) (rows_refused c.requires.bordered c.args.sheet.now c.sheet_judged-held.result c.sheet_judged-held.ensures _
    (sym (ap (λ (r : Judged ℕ). stored_section r (cut c.args.h.zones c.rows_read.new.c c.rows_read.new.f)) c.in_err-end.was) ∙ section))
