-- `lending::put_table` meets its contract: the first short table is named, or else each has the table's items in front (`read_left`).
use Rattle.types.specs.declared.Header.{Header}
use Rattle.std.proofs.lemmas.Result.{err_from_is_err_and}
use Rattle.std.specs.Prelude.{Ok}
use Rattle.refusals.specs.Refusals.{Ruling}
use mathlib.Core.Path.{refl, sym, ap, ◌∙◌, ◌≡◌}
use Prim.Native.Nat.{ℕ}
use native.Mathlib.Omega.{arith}
use lib.ListN.{take}
use Rattle.numbers.specs.Below.{over}
use Rattle.refusals.specs.Answers.{said_judgement}
use Rattle.types.proofs.RangeLaws.{header_in_lem, allocated_most}
use Rattle.tablerules.specs.Table.{lent_view, front, room_for}
use Rattle.tablerules.proofs.RoomLaws.{Enough, factors_most, room_passed}
use Rattle.reading.proofs.LeftLaws.{read_left_lem, left_is, room_refused}
use Rattle.lending.proofs.put_table.Goals as goal

enough : {h : Header} {z t b c f : ℕ} {r : Ruling} → said_judgement r h ≡ room_for h z t b c f (Ok h) → r ≡ Ok tt → Enough h z t b c f
enough {h} said e = (room_passed h _ _ _ _ _ (Ok h) h (sym said ∙ ap (λ (j : Ruling). said_judgement j h) e)).0

pub judge_room-requires : goal.judge_room-requires
judge_room-requires c = c.requires.fits

pub returns-in_err-judge_room : goal.returns-in_err-judge_room
returns-in_err-judge_room c =
    let p = err_from_is_err_and c.from_residual.result c.from_residual.ensures.1 in
    rw (p.1, p.2) (room_refused _ c.args.z.now c.args.t.now c.args.b.now c.args.c.now c.args.f.now (front (lent_view c.args.view.now)) refl _ c.judge_room.ensures _ c.in_err-judge_room.was)

pub put_front-requires : goal.put_front-requires
put_front-requires c = (omega (arith, (header_in_lem _ c.requires.fits).zones_most_lem, c.requires.roomy.zones), (enough c.judge_room.ensures c.in_ok-judge_room.was).zones)

pub put_front-requires-2 : goal.put_front-requires-2
put_front-requires-2 c = (omega (arith, c.allocated_items.ensures, allocated_most c.args.view.now.header, (header_in_lem _ c.requires.fits).zones_most_lem, c.requires.roomy.allocated), omega (arith, c.allocated_items.ensures, (enough c.judge_room.ensures c.in_ok-judge_room.was).allocated))

pub put_front-requires-3 : goal.put_front-requires-3
put_front-requires-3 c = (omega (arith, (header_in_lem _ c.requires.fits).borders_most_lem, c.requires.roomy.borders), (enough c.judge_room.ensures c.in_ok-judge_room.was).borders)

pub put_front-requires-4 : goal.put_front-requires-4
put_front-requires-4 c = (omega (arith, (header_in_lem _ c.requires.fits).rows_most_lem, c.requires.roomy.rows), (enough c.judge_room.ensures c.in_ok-judge_room.was).rows)

pub overflow_mul-h : goal.overflow_mul-h
overflow_mul-h c = omega (arith, factors_most _ c.requires.fits)

pub put_front-requires-5 : goal.put_front-requires-5
put_front-requires-5 c = (omega (arith, factors_most _ c.requires.fits, c.requires.roomy.factors), (enough c.judge_room.ensures c.in_ok-judge_room.was).factors)

pub returns : goal.returns
returns c = left_is (Ok c.args.view.now.header) c.put_front.ensures (c.put_front-2.ensures ∙ ap (λ (n : ℕ). over (take n c.args.view.now.allocated.now) c.args.t.now) c.allocated_items.ensures) c.put_front-3.ensures c.put_front-4.ensures c.put_front-5.ensures
    ∙ sym (read_left_lem _ c.args.z.now c.args.t.now c.args.b.now c.args.c.now c.args.f.now (front (lent_view c.args.view.now)) refl (enough c.judge_room.ensures c.in_ok-judge_room.was))
