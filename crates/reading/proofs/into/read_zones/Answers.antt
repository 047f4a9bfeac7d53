-- `reading::into::read_zones` meets its contract: a refused Z line decides, or else the lines after them (`nets-passed`).
use Rattle.refusals.specs.Refusals.{Judged}
use mathlib.Core.Path.{sym, ap, subst, ◌∙◌}
use mathlib.Core.List.{◌++◌}
use Prim.Native.Nat.{ℕ, ◌≤◌}
use native.Mathlib.Omega.{arith}
use Rattle.std.proofs.lemmas.Result.{err_from_is_err_and}
use lib.ListN.{length, drop}
use lib.Seq.{length-take-le}
use Rattle.types.specs.declared.Header.{Header}
use Rattle.types.specs.Ranges.{profiled}
use Rattle.lines.specs.Lines.{zone_line}
use Rattle.sections.specs.Stored.{stored_section}
use Rattle.tablerules.specs.Table.{zone_line_no}
use Rattle.reading.specs.Places.{Netted}
use Rattle.reading.proofs.JudgedTextLaws.{section_lent, room_z, counted, at_within, nets_refused, nets_passed}
use Rattle.reading.proofs.into.read_zones.Goals as goal

pub slice_bounds-zones_read-end : goal.slice_bounds-zones_read-end
slice_bounds-zones_read-end c = let room : c.args.counts.zones ≤ length c.args.z.now = omega (arith, (counted c.requires.headed).zones_most_lem, c.requires.roomy.zones) in
    room

pub slice_bounds-zones_read-end-2 : goal.slice_bounds-zones_read-end-2
slice_bounds-zones_read-end-2 c = let room : c.args.counts.zones ≤ length c.args.z.now = omega (arith, (counted c.requires.headed).zones_most_lem, c.requires.roomy.zones) in
    sym (length-take-le _ _ (room))

pub zones_read-requires : goal.zones_read-requires
zones_read-requires c = let room : c.args.counts.zones ≤ length c.args.z.now = omega (arith, (counted c.requires.headed).zones_most_lem, c.requires.roomy.zones) in
    (at_within c.requires.headed, omega (arith, (counted c.requires.headed).zones_most_lem, length-take-le c.args.counts.zones c.args.z.now (room)))

pub read_allocated-requires : goal.read_allocated-requires
read_allocated-requires c = let room : c.args.counts.zones ≤ length c.args.z.now = omega (arith, (counted c.requires.headed).zones_most_lem, c.requires.roomy.zones) in
    let rest = drop c.args.counts.zones c.args.z.now in
    let profile = c.profiled-h.ensures ∙ ap (profiled c.args.counts) c.is_allocated.ensures in
    let section = sym (ap (λ (r : Judged ℕ). stored_section r c.zones_read.new.z) c.in_ok-end.was) ∙ c.zones_read.ensures ∙ section_lent zone_line zone_line_no c.args.counts.zones c.args.text.now c.args.at c.args.z.now (room) in record { netted = subst (λ (h : Header). Netted c.args.text.now h (c.zones_read.new.z ++ rest) c.in_ok-end.end) (sym profile) (nets_passed c.requires.headed c.zones_read.new.z rest c.in_ok-end.end section); roomy = room_z c.requires.roomy c.args.counts.zones c.zones_read.new.z c.zones_read.auto.z }

pub returns-in_err-end : goal.returns-in_err-end
returns-in_err-end c = let room : c.args.counts.zones ≤ length c.args.z.now = omega (arith, (counted c.requires.headed).zones_most_lem, c.requires.roomy.zones) in
    let p = err_from_is_err_and c.from_residual.result c.from_residual.ensures.1 in
    rw (p.1, p.2) (nets_refused c.requires.headed c.args.sheet.now _ (sym (ap (λ (r : Judged ℕ). stored_section r c.zones_read.new.z) c.in_err-end.was) ∙ c.zones_read.ensures ∙ section_lent zone_line zone_line_no c.args.counts.zones c.args.text.now c.args.at c.args.z.now (room)))
