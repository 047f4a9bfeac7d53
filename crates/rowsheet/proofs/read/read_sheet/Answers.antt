-- `rowsheet::read::read_sheet` meets its contract: each return is one way in which a sheet is judged.
use Rattle.std.proofs.lemmas.Result.{err_from_is_err_and}
use Rattle.refusals.specs.Refusals.{Judged}
use mathlib.Core.Path.{◌≡◌, refl, sym, ap, ◌∙◌}
use mathlib.Core.Bool.{true}
use Prim.Native.Nat.{ℕ, ◌*◌, ◌≤◌}
use native.Mathlib.Omega.{arith}
use borrow.Author.Tests.{not-true, not-false}
use lib.ListN.{length, drop}
use lib.Seq.{length-take-le}
use Rattle.types.specs.Ranges.{header_fits}
use Rattle.types.proofs.RangeLaws.{header_in_lem}
use Rattle.lines.specs.SheetLine.{sheet_line}
use Rattle.lines.specs.declared.row.RowKind.TheVariants as row_kind
use Rattle.sections.specs.Section.{lines_at}
use Rattle.rowlines.specs.Rows.{cut}
use Rattle.sections.specs.Stored.{stored_section}
use Rattle.rowlines.proofs.RowLaws.{own_section}
use Rattle.tablerules.proofs.RoomLaws.{factors_most}
use Rattle.rowsheet.specs.RowSheet.{first_line_no, lines_in}
use Rattle.rowsheet.proofs.SheetLaws.{sheet_long, sheet_header, sheet_fault, sheet_more, sheet_good}
use Rattle.rowsheet.proofs.read.read_sheet.Goals as goal

pub returns-then-sheet-gt-BYTES_MOST : goal.returns-then-sheet-gt-BYTES_MOST
returns-then-sheet-gt-BYTES_MOST c = sheet_long _ _ c.if-sheet-gt-BYTES_MOST.true

pub returns-then-not-fits : goal.returns-then-not-fits
returns-then-not-fits c = sheet_header _ _ c.if-sheet-gt-BYTES_MOST.false (sym c.fits.ensures ∙ not-true _ c.if-not-fits.true-raw)

pub slice_bounds-rows_read-end-2 : goal.slice_bounds-rows_read-end-2
slice_bounds-rows_read-end-2 c = let fit : header_fits c.args.h ≡ true = sym c.fits.ensures ∙ not-false _ c.if-not-fits.false-raw in
    let room-c : c.args.h.rows ≤ length c.args.c.now = omega (arith, (header_in_lem _ (fit)).rows_most_lem, c.requires.0) in
    room-c

pub slice_bounds-rows_read-end-3 : goal.slice_bounds-rows_read-end-3
slice_bounds-rows_read-end-3 c = let fit : header_fits c.args.h ≡ true = sym c.fits.ensures ∙ not-false _ c.if-not-fits.false-raw in
    let room-c : c.args.h.rows ≤ length c.args.c.now = omega (arith, (header_in_lem _ (fit)).rows_most_lem, c.requires.0) in
    sym (length-take-le _ _ (room-c))

pub overflow_mul-h : goal.overflow_mul-h
overflow_mul-h c = let fit : header_fits c.args.h ≡ true = sym c.fits.ensures ∙ not-false _ c.if-not-fits.false-raw in
    omega (arith, factors_most _ (fit))

pub slice_bounds-rows_read-end-4 : goal.slice_bounds-rows_read-end-4
slice_bounds-rows_read-end-4 c = let fit : header_fits c.args.h ≡ true = sym c.fits.ensures ∙ not-false _ c.if-not-fits.false-raw in
    let room-f : c.args.h.rows * c.args.h.zones ≤ length c.args.f.now = omega (arith, factors_most _ (fit), c.requires.1) in
    room-f

pub slice_bounds-rows_read-end-5 : goal.slice_bounds-rows_read-end-5
slice_bounds-rows_read-end-5 c = let fit : header_fits c.args.h ≡ true = sym c.fits.ensures ∙ not-false _ c.if-not-fits.false-raw in
    let room-f : c.args.h.rows * c.args.h.zones ≤ length c.args.f.now = omega (arith, factors_most _ (fit), c.requires.1) in
    sym (length-take-le _ _ (room-f))

pub rows_read-requires : goal.rows_read-requires
rows_read-requires c = let fit : header_fits c.args.h ≡ true = sym c.fits.ensures ∙ not-false _ c.if-not-fits.false-raw in
    let room-c : c.args.h.rows ≤ length c.args.c.now = omega (arith, (header_in_lem _ (fit)).rows_most_lem, c.requires.0) in
    let room-f : c.args.h.rows * c.args.h.zones ≤ length c.args.f.now = omega (arith, factors_most _ (fit), c.requires.1) in
    let k = header_in_lem _ (fit) in
    let long = length-take-le c.args.h.rows c.args.c.now (room-c) in record { at_in_bounds = (omega arith, omega (arith, k.rows_most_lem, long), length-take-le _ c.args.f.now (room-f) ∙ ap (λ (n : ℕ). n * c.args.h.zones) (sym long), omega (arith, k.zones_least_lem), k.zones_most_lem); sheet_value = refl }

pub overflow_add-result : goal.overflow_add-result
overflow_add-result c = let fit : header_fits c.args.h ≡ true = sym c.fits.ensures ∙ not-false _ c.if-not-fits.false-raw in
    omega (arith, (header_in_lem _ (fit)).rows_most_lem)

pub returns-then-end-sheet : goal.returns-then-end-sheet
returns-then-end-sheet c = let fit : header_fits c.args.h ≡ true = sym c.fits.ensures ∙ not-false _ c.if-not-fits.false-raw in
    let room-c : c.args.h.rows ≤ length c.args.c.now = omega (arith, (header_in_lem _ (fit)).rows_most_lem, c.requires.0) in
    let section : stored_section c.rows_read.result (cut c.args.h.zones c.rows_read.new.c c.rows_read.new.f) ≡ lines_in c.args.h c.args.sheet.now = c.rows_read.ensures
    ∙ own_section row_kind.Sheet c.args.h.zones first_line_no _ c.args.sheet.now 0 0
    ∙ ap (λ (n : ℕ). lines_at (sheet_line c.args.h.zones) first_line_no n c.args.sheet.now 0 0) (length-take-le c.args.h.rows c.args.c.now (room-c)) in
    sheet_more c.args.h c.args.sheet.now c.if-sheet-gt-BYTES_MOST.false (fit) c.rows_read.new.c c.rows_read.new.f _
    (sym (ap (λ (r : Judged ℕ). stored_section r (cut c.args.h.zones c.rows_read.new.c c.rows_read.new.f)) c.in_ok-end.was) ∙ section) c.if-end-sheet.true

pub returns : goal.returns
returns c = let fit : header_fits c.args.h ≡ true = sym c.fits.ensures ∙ not-false _ c.if-not-fits.false-raw in
    let room-f : c.args.h.rows * c.args.h.zones ≤ length c.args.f.now = omega (arith, factors_most _ (fit), c.requires.1) in
    let room-c : c.args.h.rows ≤ length c.args.c.now = omega (arith, (header_in_lem _ (fit)).rows_most_lem, c.requires.0) in
    let section : stored_section c.rows_read.result (cut c.args.h.zones c.rows_read.new.c c.rows_read.new.f) ≡ lines_in c.args.h c.args.sheet.now = c.rows_read.ensures
    ∙ own_section row_kind.Sheet c.args.h.zones first_line_no _ c.args.sheet.now 0 0
    ∙ ap (λ (n : ℕ). lines_at (sheet_line c.args.h.zones) first_line_no n c.args.sheet.now 0 0) (length-take-le c.args.h.rows c.args.c.now (room-c)) in
    sheet_good c.args.h c.args.sheet.now c.if-sheet-gt-BYTES_MOST.false (fit) c.rows_read.new.c c.rows_read.new.f _
    (sym (ap (λ (r : Judged ℕ). stored_section r (cut c.args.h.zones c.rows_read.new.c c.rows_read.new.f)) c.in_ok-end.was) ∙ section)
    (drop c.args.h.rows c.args.c.now) (drop (c.args.h.rows * c.args.h.zones) c.args.f.now) (c.rows_read.auto.f ∙ length-take-le _ c.args.f.now (room-f)) c.if-end-sheet.false

pub returns-in_err-end : goal.returns-in_err-end
returns-in_err-end c =
    let p = err_from_is_err_and c.from_residual.result c.from_residual.ensures.1 in
    rw (p.1, p.2) (let fit : header_fits c.args.h ≡ true = sym c.fits.ensures ∙ not-false _ c.if-not-fits.false-raw in
    let room-c : c.args.h.rows ≤ length c.args.c.now = omega (arith, (header_in_lem _ (fit)).rows_most_lem, c.requires.0) in
    let section : stored_section c.rows_read.result (cut c.args.h.zones c.rows_read.new.c c.rows_read.new.f) ≡ lines_in c.args.h c.args.sheet.now = c.rows_read.ensures
    ∙ own_section row_kind.Sheet c.args.h.zones first_line_no _ c.args.sheet.now 0 0
    ∙ ap (λ (n : ℕ). lines_at (sheet_line c.args.h.zones) first_line_no n c.args.sheet.now 0 0) (length-take-le c.args.h.rows c.args.c.now (room-c)) in
    sheet_fault c.args.h c.args.sheet.now c.if-sheet-gt-BYTES_MOST.false (fit) _
    (sym (ap (λ (r : Judged ℕ). stored_section r (cut c.args.h.zones c.rows_read.new.c c.rows_read.new.f)) c.in_err-end.was) ∙ section))
