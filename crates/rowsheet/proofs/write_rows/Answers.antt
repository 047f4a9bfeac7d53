-- `rowsheet::write_rows` meets its contract: a header out of range (`header-out`), a short table (`room_out`), or the front of both goes on (`front-on`).
use Rattle.std.proofs.lemmas.Result.{err_from_is_err_and}
use Rattle.std.specs.Prelude.{Ok}
use Rattle.refusals.specs.Refusals.{Ruling}
use mathlib.Core.Path.{◌≡◌, sym, ap, ◌∙◌}
use mathlib.Core.Bool.{true}
use Prim.Native.Nat.{ℕ, ◌*◌, ◌≤◌}
use native.Mathlib.Omega.{arith}
use borrow.Author.Tests.{not-true, not-false}
use lib.ListN.{length}
use lib.Seq.{length-take-le}
use Rattle.refusals.specs.Answers.{said_judgement}
use Rattle.types.specs.Ranges.{header_fits}
use Rattle.types.proofs.RangeLaws.{header_in_lem}
use Rattle.tablerules.proofs.RoomLaws.{factors_most}
use Rattle.rowsheet.specs.RowSheet.{row_room}
use Rattle.rowsheet.proofs.SheetLaws.{room_passed}
use Rattle.rowsheet.proofs.WriteLaws.{header_out_lem, room_out, front_on}
use Rattle.rowsheet.proofs.write_rows.Goals as goal

fit : (c : goal.Else-not-fits) → header_fits c.args.h ≡ true
fit c = sym c.fits.ensures ∙ not-false _ c.if-not-fits.false-raw

room : (c : goal.In_ok-judge_room) → Ok c.args.h ≡ row_room c.args.h (length c.args.c.now) (length c.args.f.now) (Ok c.args.h)
room c = sym (ap (λ (j : Ruling). said_judgement j c.args.h) c.in_ok-judge_room.was) ∙ c.judge_room.ensures

enough : (c : goal.In_ok-judge_room) → (c.args.h.rows ≤ length c.args.c.now) × (c.args.h.rows * c.args.h.zones ≤ length c.args.f.now)
enough c = let n = room_passed c.args.h (length c.args.c.now) (length c.args.f.now) (Ok c.args.h) c.args.h (sym (room c)) in
    (n.0, n.1)

pub returns-then-not-fits : goal.returns-then-not-fits
returns-then-not-fits c = (header_out_lem c.args.h c.args.c.now c.args.f.now c.args.out.now (sym c.fits.ensures ∙ not-true _ c.if-not-fits.true-raw))

pub judge_room-requires : goal.judge_room-requires
judge_room-requires c = fit c

pub returns-in_err-judge_room : goal.returns-in_err-judge_room
returns-in_err-judge_room c =
    let p = err_from_is_err_and c.from_residual.result c.from_residual.ensures.1 in
    rw (p.1, p.2) (let fit : header_fits c.args.h ≡ true = sym c.fits.ensures ∙ not-false _ c.if-not-fits.false-raw in
    room_out c.args.h c.args.c.now c.args.f.now c.args.out.now (fit) _ (sym (ap (λ (j : Ruling). said_judgement j c.args.h) c.in_err-judge_room.was) ∙ c.judge_room.ensures))

pub slice_bounds-write_front-end : goal.slice_bounds-write_front-end
slice_bounds-write_front-end c = sym (length-take-le _ _ (enough c).0)

pub overflow_mul-h : goal.overflow_mul-h
overflow_mul-h c =
    let fit : header_fits c.args.h ≡ true = sym c.fits.ensures ∙ not-false _ c.if-not-fits.false-raw in
    omega (arith, factors_most _ (fit))

pub slice_bounds-write_front-end-2 : goal.slice_bounds-write_front-end-2
slice_bounds-write_front-end-2 c =
    let room : Ok c.args.h ≡ row_room c.args.h (length c.args.c.now) (length c.args.f.now) (Ok c.args.h) = sym (ap (λ (j : Ruling). said_judgement j c.args.h) c.in_ok-judge_room.was) ∙ c.judge_room.ensures in
    let enough : (c.args.h.rows ≤ length c.args.c.now) × (c.args.h.rows * c.args.h.zones ≤ length c.args.f.now) = let n = room_passed c.args.h (length c.args.c.now) (length c.args.f.now) (Ok c.args.h) c.args.h (sym (room)) in (n.0, n.1) in
    sym (length-take-le _ _ (enough).1)

pub write_front-requires : goal.write_front-requires
write_front-requires c =
    let fit : header_fits c.args.h ≡ true = sym c.fits.ensures ∙ not-false _ c.if-not-fits.false-raw in
    let room : Ok c.args.h ≡ row_room c.args.h (length c.args.c.now) (length c.args.f.now) (Ok c.args.h) = sym (ap (λ (j : Ruling). said_judgement j c.args.h) c.in_ok-judge_room.was) ∙ c.judge_room.ensures in
    let enough : (c.args.h.rows ≤ length c.args.c.now) × (c.args.h.rows * c.args.h.zones ≤ length c.args.f.now) = let n = room_passed c.args.h (length c.args.c.now) (length c.args.f.now) (Ok c.args.h) c.args.h (sym (room)) in (n.0, n.1) in
    let n = enough in
    let k = header_in_lem c.args.h (fit) in
    let rows = length-take-le c.args.h.rows c.args.c.now n.0 in
    (length-take-le (c.args.h.rows * c.args.h.zones) c.args.f.now n.1 ∙ ap (λ (m : ℕ). m * c.args.h.zones) (sym rows), omega (arith, k.zones_least_lem), k.zones_most_lem, omega (arith, rows, k.rows_most_lem))

pub returns : goal.returns
returns c =
    let fit : header_fits c.args.h ≡ true = sym c.fits.ensures ∙ not-false _ c.if-not-fits.false-raw in
    let room : Ok c.args.h ≡ row_room c.args.h (length c.args.c.now) (length c.args.f.now) (Ok c.args.h) = sym (ap (λ (j : Ruling). said_judgement j c.args.h) c.in_ok-judge_room.was) ∙ c.judge_room.ensures in
    c.write_front.ensures ∙ front_on c.args.h c.args.c.now c.args.f.now c.args.out.now (fit) (room)
