use mathlib.Core.Path.{◌≡◌, sym, ap, subst, ◌∙◌}
use mathlib.Core.List.{List, ◌++◌}
use Prim.Native.Nat.{ℕ, ◌+◌, ◌*◌, ◌-◌, ◌≤◌}
use native.Mathlib.Omega.{arith}
use lib.ListN.{length, take, drop}
use Rattle.numbers.proofs.ListLaws.{part_long}
use Rattle.text.specs.Line.{line_at}
use Rattle.lines.specs.SaidRow.{said_row, line_by}
use Rattle.lines.specs.declared.row.RowKind.{RowKind}
use Rattle.corrections.specs.Corrections.{pieces, Piece, piece, row_in, handed_on, handed_by}
use Rattle.corrections.specs.Alongside.{piece_for, sheet_after}
use Rattle.corrections.proofs.SheetAlongside.{Walked, walked_start, walked_line, walked_more}
use Rattle.sections.specs.Section.{fault}
use Rattle.rowlines.specs.Rows.{instead, corrected_by}
use Rattle.sections.proofs.StoredLaws.{after_within}
use Rattle.rowlines.proofs.RowStored.{rows_stored_none, rows_stored_all, rows_stored_room, rows_stored_back, rows_stored_bad, rows_stored_more}
use Rattle.rowlines.proofs.rows_read.Goals as goal
use Rattle.std.specs.Prelude.{Result}
use Rattle.text.specs.declared.LineFault.{LineFault}
use lib.IntN.{ℤ}

pub loop-i-init : goal.loop-i-init
loop-i-init c = record {
  stored = rows_stored_none _ c.args.first c.args.text.now c.args.at c.args.zones c.args.c.now c.args.f.now c.requires.at_in_bounds.0 c.requires.at_in_bounds.2;
  walked = walked_start c.sheet_kind-by.result c.args.zones (length c.args.c.now) c.args.sheet.now c.sheet_kind-by.ensures c.requires.sheet_value;
}

pub line_at-given-requires : goal.line_at-given-requires
line_at-given-requires c = c.loop-i.invariant.stored.stored.within

pub line_at-next-requires : goal.line_at-next-requires
line_at-next-requires c = c.loop-i.invariant.walked.within

pub overflow_mul-start : goal.overflow_mul-start
overflow_mul-start c =
    let room : c.loop-i.i * c.args.zones + c.args.zones ≤ length c.loop-i.f = rows_stored_room (corrected_by c.args.kind c.args.zones (handed_by c.args.sheet.now)) c.args.first c.args.text.now c.args.at c.args.zones c.args.c.now c.args.f.now c.loop-i.c c.loop-i.f c.loop-i.i c.loop-i.p c.loop-i.invariant.stored c.loop-i-test.true in
    omega (arith, room)

pub overflow_add-start : goal.overflow_add-start
overflow_add-start c =
    let room : c.loop-i.i * c.args.zones + c.args.zones ≤ length c.loop-i.f = rows_stored_room (corrected_by c.args.kind c.args.zones (handed_by c.args.sheet.now)) c.args.first c.args.text.now c.args.at c.args.zones c.args.c.now c.args.f.now c.loop-i.c c.loop-i.f c.loop-i.i c.loop-i.p c.loop-i.invariant.stored c.loop-i-test.true in
    omega (arith, room)

pub offset_bounds-f-start : goal.offset_bounds-f-start
offset_bounds-f-start c =
    let room : c.loop-i.i * c.args.zones + c.args.zones ≤ length c.loop-i.f = rows_stored_room (corrected_by c.args.kind c.args.zones (handed_by c.args.sheet.now)) c.args.first c.args.text.now c.args.at c.args.zones c.args.c.now c.args.f.now c.loop-i.c c.loop-i.f c.loop-i.i c.loop-i.p c.loop-i.invariant.stored c.loop-i-test.true in
    omega (arith, room)

pub slice_bounds-row_corrected-end : goal.slice_bounds-row_corrected-end
slice_bounds-row_corrected-end c =
    let room : c.loop-i.i * c.args.zones + c.args.zones ≤ length c.loop-i.f = rows_stored_room (corrected_by c.args.kind c.args.zones (handed_by c.args.sheet.now)) c.args.first c.args.text.now c.args.at c.args.zones c.args.c.now c.args.f.now c.loop-i.c c.loop-i.f c.loop-i.i c.loop-i.p c.loop-i.invariant.stored c.loop-i-test.true in
    omega (arith, room)

pub row_corrected-requires : goal.row_corrected-requires
row_corrected-requires c =
    let room : c.loop-i.i * c.args.zones + c.args.zones ≤ length c.loop-i.f = rows_stored_room (corrected_by c.args.kind c.args.zones (handed_by c.args.sheet.now)) c.args.first c.args.text.now c.args.at c.args.zones c.args.c.now c.args.f.now c.loop-i.c c.loop-i.f c.loop-i.i c.loop-i.p c.loop-i.invariant.stored c.loop-i-test.true in
    let lent : let start = c.loop-i.i * c.args.zones in length (take (start + c.args.zones - start) (drop start c.loop-i.f)) ≡ c.args.zones = part_long c.loop-i.f _ _ (room) in
    (omega (arith, lent, c.requires.at_in_bounds.3), omega (arith, lent, c.requires.at_in_bounds.4))

pub bounds-c-i : goal.bounds-c-i
bounds-c-i c = omega (arith, c.loop-i.invariant.stored.rows_long)

pub overflow_add-first : goal.overflow_add-first
overflow_add-first c = omega (arith, c.loop-i-test.true, c.requires.at_in_bounds.1)

pub shape_of-c-in-Err : goal.shape_of-c-in-Err
shape_of-c-in-Err c = c.loop-i.invariant.stored.rows_long

pub shape_of-f-in-Err : goal.shape_of-f-in-Err
shape_of-f-in-Err c =
    let room : c.loop-i.i * c.args.zones + c.args.zones ≤ length c.loop-i.f = rows_stored_room (corrected_by c.args.kind c.args.zones (handed_by c.args.sheet.now)) c.args.first c.args.text.now c.args.at c.args.zones c.args.c.now c.args.f.now c.loop-i.c c.loop-i.f c.loop-i.i c.loop-i.p c.loop-i.invariant.stored c.loop-i-test.true in
    let lent : let start = c.loop-i.i * c.args.zones in length (take (start + c.args.zones - start) (drop start c.loop-i.f)) ≡ c.args.zones = part_long c.loop-i.f _ _ (room) in
    let wide : length c.row_corrected.new.f ≡ c.args.zones = c.row_corrected.auto.f ∙ lent in
    let factors_kept : let start = c.loop-i.i * c.args.zones in
    length (take start c.loop-i.f ++ (c.row_corrected.new.f ++ drop (start + c.args.zones - start) (drop start c.loop-i.f))) ≡ length c.args.f.now = rows_stored_back (corrected_by c.args.kind c.args.zones (handed_by c.args.sheet.now)) c.args.first c.args.text.now c.args.at c.args.zones c.args.c.now c.args.f.now c.loop-i.c c.loop-i.f c.loop-i.i c.loop-i.p c.loop-i.invariant.stored c.loop-i-test.true c.row_corrected.new.f (wide) ∙ sym c.requires.at_in_bounds.2 in
    factors_kept

pub returns-in-Err : goal.returns-in-Err
returns-in-Err c =
    let room : c.loop-i.i * c.args.zones + c.args.zones ≤ length c.loop-i.f = rows_stored_room (corrected_by c.args.kind c.args.zones (handed_by c.args.sheet.now)) c.args.first c.args.text.now c.args.at c.args.zones c.args.c.now c.args.f.now c.loop-i.c c.loop-i.f c.loop-i.i c.loop-i.p c.loop-i.invariant.stored c.loop-i-test.true in
    let lent : let start = c.loop-i.i * c.args.zones in length (take (start + c.args.zones - start) (drop start c.loop-i.f)) ≡ c.args.zones = part_long c.loop-i.f _ _ (room) in
    let row-said : (corrected_by c.args.kind c.args.zones (handed_by c.args.sheet.now)) (line_at c.args.text.now c.loop-i.p) c.loop-i.i ≡ said_row c.row_corrected.result c.row_corrected.new.f = let day = piece c.args.kind c.line_at-given.result.now in
    let handed : piece_for c.sheet_kind-by.result c.line_at-next.result.now day c.loop-i.i ≡ handed_by c.args.sheet.now day c.loop-i.i =
    ap (λ (x : List ℕ). piece_for c.sheet_kind-by.result x day c.loop-i.i) c.line_at-next.ensures ∙ walked_line c.sheet_kind-by.result c.args.zones (length c.args.c.now) c.args.sheet.now c.loop-i.s c.loop-i.i c.loop-i.invariant.walked day
    ∙ ap (λ (k : RowKind). handed_on k (pieces c.args.sheet.now) day c.loop-i.i) c.sheet_kind-by.ensures in
    sym
    (c.row_corrected.ensures
    ∙ ap (λ (n : ℕ). instead (line_by c.args.kind n c.line_at-given.result.now c.loop-i.i) (row_in n (piece_for c.sheet_kind-by.result c.line_at-next.result.now day c.loop-i.i) c.loop-i.i)) (lent)
    ∙ ap (λ (x : Piece). instead (line_by c.args.kind c.args.zones c.line_at-given.result.now c.loop-i.i) (row_in c.args.zones x c.loop-i.i)) handed
    ∙ ap (λ (x : List ℕ). (corrected_by c.args.kind c.args.zones (handed_by c.args.sheet.now)) x c.loop-i.i) c.line_at-given.ensures) in
    ap fault c.refusal.ensures
    ∙ rows_stored_bad (corrected_by c.args.kind c.args.zones (handed_by c.args.sheet.now)) c.args.first c.args.text.now c.args.at c.args.zones c.args.c.now c.args.f.now c.loop-i.c c.loop-i.f c.loop-i.i c.loop-i.p c.loop-i.invariant.stored c.loop-i-test.true _
    (row-said ∙ ap (λ (r : Result (List ℤ) LineFault). said_row r c.row_corrected.new.f) c.in-Err.is)

pub sheet_after-s-requires : goal.sheet_after-s-requires
sheet_after-s-requires c = rw c.line_at-next.ensures (omega (arith, after_within c.args.sheet.now c.loop-i.s c.loop-i.invariant.walked.within, c.well_formed))

pub overflow_add-p : goal.overflow_add-p
overflow_add-p c = rw c.line_at-given.ensures (omega (arith, after_within c.args.text.now c.loop-i.p c.loop-i.invariant.stored.stored.within, c.well_formed))

pub loop-i-preserved : goal.loop-i-preserved
loop-i-preserved c =
    let room : c.loop-i.i * c.args.zones + c.args.zones ≤ length c.loop-i.f = rows_stored_room (corrected_by c.args.kind c.args.zones (handed_by c.args.sheet.now)) c.args.first c.args.text.now c.args.at c.args.zones c.args.c.now c.args.f.now c.loop-i.c c.loop-i.f c.loop-i.i c.loop-i.p c.loop-i.invariant.stored c.loop-i-test.true in
    let lent : let start = c.loop-i.i * c.args.zones in length (take (start + c.args.zones - start) (drop start c.loop-i.f)) ≡ c.args.zones = part_long c.loop-i.f _ _ (room) in
    let row-said : (corrected_by c.args.kind c.args.zones (handed_by c.args.sheet.now)) (line_at c.args.text.now c.loop-i.p) c.loop-i.i ≡ said_row c.row_corrected.result c.row_corrected.new.f = let day = piece c.args.kind c.line_at-given.result.now in
    let handed : piece_for c.sheet_kind-by.result c.line_at-next.result.now day c.loop-i.i ≡ handed_by c.args.sheet.now day c.loop-i.i =
    ap (λ (x : List ℕ). piece_for c.sheet_kind-by.result x day c.loop-i.i) c.line_at-next.ensures ∙ walked_line c.sheet_kind-by.result c.args.zones (length c.args.c.now) c.args.sheet.now c.loop-i.s c.loop-i.i c.loop-i.invariant.walked day
    ∙ ap (λ (k : RowKind). handed_on k (pieces c.args.sheet.now) day c.loop-i.i) c.sheet_kind-by.ensures in
    sym
    (c.row_corrected.ensures
    ∙ ap (λ (n : ℕ). instead (line_by c.args.kind n c.line_at-given.result.now c.loop-i.i) (row_in n (piece_for c.sheet_kind-by.result c.line_at-next.result.now day c.loop-i.i) c.loop-i.i)) (lent)
    ∙ ap (λ (x : Piece). instead (line_by c.args.kind c.args.zones c.line_at-given.result.now c.loop-i.i) (row_in c.args.zones x c.loop-i.i)) handed
    ∙ ap (λ (x : List ℕ). (corrected_by c.args.kind c.args.zones (handed_by c.args.sheet.now)) x c.loop-i.i) c.line_at-given.ensures) in
    let wide : length c.row_corrected.new.f ≡ c.args.zones = c.row_corrected.auto.f ∙ lent in
    record {
      stored = rw c.line_at-given.ensures
          (rows_stored_more (corrected_by c.args.kind c.args.zones (handed_by c.args.sheet.now)) c.args.first c.args.text.now c.args.at c.args.zones c.args.c.now c.args.f.now c.loop-i.c c.loop-i.f c.loop-i.i c.loop-i.p c.loop-i.invariant.stored c.loop-i-test.true c.in-Ok.raw c.row_corrected.new.f (wide)
          (row-said ∙ ap (λ (r : Result (List ℤ) LineFault). said_row r c.row_corrected.new.f) c.in-Ok.is));
      walked = subst (λ (v : ℕ). Walked c.sheet_kind-by.result c.args.zones (length c.args.c.now) c.args.sheet.now v (c.loop-i.i + 1)) (sym (c.sheet_after-s.ensures ∙ ap (λ (next : List ℕ). sheet_after c.sheet_kind-by.result next c.loop-i.s c.loop-i.i) c.line_at-next.ensures))
          (walked_more c.sheet_kind-by.result c.args.zones (length c.args.c.now) c.args.sheet.now c.loop-i.s c.loop-i.i c.loop-i.invariant.walked);
    }

pub shape_of-c : goal.shape_of-c
shape_of-c c = c.loop-i.invariant.stored.rows_long

pub shape_of-f : goal.shape_of-f
shape_of-f c = c.loop-i.invariant.stored.factors_long ∙ sym c.requires.at_in_bounds.2

pub returns : goal.returns
returns c = rows_stored_all _ c.args.first c.args.text.now c.args.at c.args.zones c.args.c.now c.args.f.now c.loop-i.c c.loop-i.f c.loop-i.i c.loop-i.p c.loop-i.invariant.stored c.loop-i-test.false
