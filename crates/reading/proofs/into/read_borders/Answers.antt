-- `reading::into::read_borders` meets its contract: a refused B line decides, or else the lines after them (`borders-passed`).
use Rattle.refusals.specs.Refusals.{Judged}
use mathlib.Core.Path.{◌≡◌, sym, ap, ◌∙◌}
use Prim.Native.Nat.{ℕ, ◌+◌, ◌≤◌}
use native.Mathlib.Omega.{arith}
use Rattle.std.proofs.lemmas.Result.{err_from_is_err_and}
use lib.ListN.{length, drop}
use lib.Seq.{length-take-le}
use Rattle.types.proofs.RangeLaws.{allocated_most}
use Rattle.lines.specs.Lines.{border_line}
use Rattle.sections.specs.Section.{lines_at}
use Rattle.sections.specs.Stored.{stored_section}
use Rattle.tablerules.specs.Table.{zone_line_no}
use Rattle.reading.proofs.JudgedTextLaws.{section_lent, room_b, bounds, borders_section, borders_refused, borders_passed}
use Rattle.reading.proofs.into.read_borders.Goals as goal

pub overflow_add-first : goal.overflow_add-first
overflow_add-first c = omega (arith, bounds c.requires.allocated)

pub overflow_add-first-2 : goal.overflow_add-first-2
overflow_add-first-2 c = omega (arith, bounds c.requires.allocated, c.allocated_items.ensures, allocated_most c.args.h)

pub slice_bounds-borders_read-end : goal.slice_bounds-borders_read-end
slice_bounds-borders_read-end c = let room : c.args.h.borders ≤ length c.args.b.now = omega (arith, (bounds c.requires.allocated).borders_most_lem, c.requires.roomy.borders) in
    room

pub slice_bounds-borders_read-end-2 : goal.slice_bounds-borders_read-end-2
slice_bounds-borders_read-end-2 c = let room : c.args.h.borders ≤ length c.args.b.now = omega (arith, (bounds c.requires.allocated).borders_most_lem, c.requires.roomy.borders) in
    sym (length-take-le _ _ (room))

pub borders_read-requires : goal.borders_read-requires
borders_read-requires c = let room : c.args.h.borders ≤ length c.args.b.now = omega (arith, (bounds c.requires.allocated).borders_most_lem, c.requires.roomy.borders) in
    (c.requires.allocated.within, omega (arith, bounds c.requires.allocated, c.allocated_items.ensures, allocated_most c.args.h, length-take-le _ c.args.b.now (room)))

pub read_rows-requires : goal.read_rows-requires
read_rows-requires c = let room : c.args.h.borders ≤ length c.args.b.now = omega (arith, (bounds c.requires.allocated).borders_most_lem, c.requires.roomy.borders) in
    let section : stored_section c.borders_read.result c.borders_read.new.b ≡ borders_section c.args.text.now c.args.h c.args.at = c.borders_read.ensures
    ∙ section_lent (border_line c.args.h.zones) _ c.args.h.borders c.args.text.now c.args.at c.args.b.now (room)
    ∙ ap (λ (n : ℕ). lines_at (border_line c.args.h.zones) (zone_line_no + c.args.h.zones + n) c.args.h.borders c.args.text.now c.args.at 0) c.allocated_items.ensures in
    record { bordered = borders_passed c.requires.allocated c.borders_read.new.b (drop c.args.h.borders c.args.b.now) _ (sym (ap (λ (r : Judged ℕ). stored_section r c.borders_read.new.b) c.in_ok-end.was) ∙ section); roomy = room_b c.requires.roomy c.args.h.borders c.borders_read.new.b c.borders_read.auto.b }

pub returns-in_err-end : goal.returns-in_err-end
returns-in_err-end c = let room : c.args.h.borders ≤ length c.args.b.now = omega (arith, (bounds c.requires.allocated).borders_most_lem, c.requires.roomy.borders) in
    let section : stored_section c.borders_read.result c.borders_read.new.b ≡ borders_section c.args.text.now c.args.h c.args.at = c.borders_read.ensures
    ∙ section_lent (border_line c.args.h.zones) _ c.args.h.borders c.args.text.now c.args.at c.args.b.now (room)
    ∙ ap (λ (n : ℕ). lines_at (border_line c.args.h.zones) (zone_line_no + c.args.h.zones + n) c.args.h.borders c.args.text.now c.args.at 0) c.allocated_items.ensures in
    let p = err_from_is_err_and c.from_residual.result c.from_residual.ensures.1 in
    rw (p.1, p.2) (borders_refused c.requires.allocated c.args.sheet.now _ (sym (ap (λ (r : Judged ℕ). stored_section r c.borders_read.new.b) c.in_err-end.was) ∙ section))
