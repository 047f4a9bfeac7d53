-- `rowsheet::read_with` meets its contract: what is refused writes nothing (`sheet-refused`, `left-short`), and else the rows stand in front (`left-filled`).
use Rattle.std.proofs.lemmas.Result.{err_from_is_err_and}
use Rattle.std.specs.Prelude.{Ok}
use Rattle.refusals.specs.Refusals.{Ruling}
use mathlib.Core.Path.{◌≡◌, sym, ap, ap₂, ◌∙◌}
use mathlib.Core.List.{List}
use native.Mathlib.Omega.{arith}
use lib.IntN.{ℤ}
use lib.ListN.{length}
use Rattle.refusals.specs.Answers.{said_judgement}
use Rattle.types.proofs.RangeLaws.{header_in_lem}
use Rattle.tablerules.proofs.RoomLaws.{factors_most}
use Rattle.rowsheet.specs.RowSheet.{front_rows, read_sheet, row_room, rows_said}
use Rattle.rowsheet.proofs.SheetLaws.{sheet_refused, SheetSection, sheet_section, left_short, left_filled, room_passed}
use Rattle.rowsheet.proofs.read_with.Goals as goal

pub returns-in_err-read_sheet : goal.returns-in_err-read_sheet
returns-in_err-read_sheet c =
    let p = err_from_is_err_and c.from_residual.result c.from_residual.ensures.1 in
    rw (p.1, p.2) (sheet_refused c.args.h c.args.sheet.now c.args.c.now c.args.f.now _ (sym (ap (λ (j : Ruling). said_judgement j (front_rows c.args.h c.read_sheet.new.c c.read_sheet.new.f)) c.in_err-read_sheet.was) ∙ c.read_sheet.ensures))

pub judge_room-requires : goal.judge_room-requires
judge_room-requires c =
    let good : Ok (front_rows c.args.h c.read_sheet.new.c c.read_sheet.new.f) ≡ read_sheet c.args.h c.args.sheet.now = sym (ap (λ (j : Ruling). said_judgement j (front_rows c.args.h c.read_sheet.new.c c.read_sheet.new.f)) c.in_ok-read_sheet.was) ∙ c.read_sheet.ensures in
    let section : SheetSection c.args.h c.args.sheet.now (front_rows c.args.h c.read_sheet.new.c c.read_sheet.new.f) = sheet_section _ _ _ (sym (good)) in
    (section).fits

pub returns-in_err-judge_room : goal.returns-in_err-judge_room
returns-in_err-judge_room c =
    let p = err_from_is_err_and c.from_residual-in_err-judge_room.result c.from_residual-in_err-judge_room.ensures.1 in
    rw (p.1, p.2) (let good : Ok (front_rows c.args.h c.read_sheet.new.c c.read_sheet.new.f) ≡ read_sheet c.args.h c.args.sheet.now = sym (ap (λ (j : Ruling). said_judgement j (front_rows c.args.h c.read_sheet.new.c c.read_sheet.new.f)) c.in_ok-read_sheet.was) ∙ c.read_sheet.ensures in
    left_short c.args.h c.args.sheet.now c.args.c.now c.args.f.now (front_rows c.args.h c.read_sheet.new.c c.read_sheet.new.f) (good) _ (sym (ap (λ (j : Ruling). said_judgement j c.args.h) c.in_err-judge_room.was) ∙ c.judge_room.ensures))

pub put_front-requires : goal.put_front-requires
put_front-requires c =
    let good : Ok (front_rows c.args.h c.read_sheet.new.c c.read_sheet.new.f) ≡ read_sheet c.args.h c.args.sheet.now = sym (ap (λ (j : Ruling). said_judgement j (front_rows c.args.h c.read_sheet.new.c c.read_sheet.new.f)) c.in_ok-read_sheet.was) ∙ c.read_sheet.ensures in
    let section : SheetSection c.args.h c.args.sheet.now (front_rows c.args.h c.read_sheet.new.c c.read_sheet.new.f) = sheet_section _ _ _ (sym (good)) in
    let room : Ok c.args.h ≡ row_room c.args.h (length c.args.c.now) (length c.args.f.now) (Ok c.args.h) = sym (ap (λ (j : Ruling). said_judgement j c.args.h) c.in_ok-judge_room.was) ∙ c.judge_room.ensures in
    let n = room_passed _ _ _ _ _ (sym (room)) in
    (omega (arith, (header_in_lem _ (section).fits).rows_most_lem, c.requires.0, c.read_sheet.auto.c), n.0)

pub overflow_mul-h : goal.overflow_mul-h
overflow_mul-h c =
    let good : Ok (front_rows c.args.h c.read_sheet.new.c c.read_sheet.new.f) ≡ read_sheet c.args.h c.args.sheet.now = sym (ap (λ (j : Ruling). said_judgement j (front_rows c.args.h c.read_sheet.new.c c.read_sheet.new.f)) c.in_ok-read_sheet.was) ∙ c.read_sheet.ensures in
    let section : SheetSection c.args.h c.args.sheet.now (front_rows c.args.h c.read_sheet.new.c c.read_sheet.new.f) = sheet_section _ _ _ (sym (good)) in
    omega (arith, factors_most _ (section).fits)

pub put_front-requires-2 : goal.put_front-requires-2
put_front-requires-2 c =
    let good : Ok (front_rows c.args.h c.read_sheet.new.c c.read_sheet.new.f) ≡ read_sheet c.args.h c.args.sheet.now = sym (ap (λ (j : Ruling). said_judgement j (front_rows c.args.h c.read_sheet.new.c c.read_sheet.new.f)) c.in_ok-read_sheet.was) ∙ c.read_sheet.ensures in
    let section : SheetSection c.args.h c.args.sheet.now (front_rows c.args.h c.read_sheet.new.c c.read_sheet.new.f) = sheet_section _ _ _ (sym (good)) in
    let room : Ok c.args.h ≡ row_room c.args.h (length c.args.c.now) (length c.args.f.now) (Ok c.args.h) = sym (ap (λ (j : Ruling). said_judgement j c.args.h) c.in_ok-judge_room.was) ∙ c.judge_room.ensures in
    let n = room_passed _ _ _ _ _ (sym (room)) in
    (omega (arith, factors_most _ (section).fits, c.requires.1, c.read_sheet.auto.f), n.1)

pub returns : goal.returns
returns c =
    let good : Ok (front_rows c.args.h c.read_sheet.new.c c.read_sheet.new.f) ≡ read_sheet c.args.h c.args.sheet.now = sym (ap (λ (j : Ruling). said_judgement j (front_rows c.args.h c.read_sheet.new.c c.read_sheet.new.f)) c.in_ok-read_sheet.was) ∙ c.read_sheet.ensures in
    let room : Ok c.args.h ≡ row_room c.args.h (length c.args.c.now) (length c.args.f.now) (Ok c.args.h) = sym (ap (λ (j : Ruling). said_judgement j c.args.h) c.in_ok-judge_room.was) ∙ c.judge_room.ensures in
    ap₂ (λ (x : List (List ℤ)) (y : List ℤ). rows_said (Ok tt) x y) c.put_front.ensures c.put_front-2.ensures
    ∙ left_filled c.args.h c.args.sheet.now c.args.c.now c.args.f.now (front_rows c.args.h c.read_sheet.new.c c.read_sheet.new.f) (good) (room)
