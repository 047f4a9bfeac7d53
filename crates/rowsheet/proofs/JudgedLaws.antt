-- What is known of rows that were judged, and of a sheet that was read: lengths, ranges, and that their text has no more than 60,200 bytes. No contract cites this file.
use Rattle.std.specs.Prelude.{Ok}
use mathlib.Core.Path.{◌≡◌, refl, sym, ap, subst, ◌∙◌}
use mathlib.Core.Bool.{true}
use mathlib.Core.List.{List, []}
use Prim.Native.Nat.{ℕ, ◌*◌, ◌≤◌, ◌<◌}
use native.Mathlib.Nat.{le_trans}
use native.Mathlib.Omega.{arith}
use borrow.Author.Tests.{not-false}
use lib.Dec.{lit≤}
use lib.IntN.{ℤ}
use lib.ListN.{length, get_or, take}
use lib.Seq.{length-take-le}
use Rattle.numbers.specs.Below.{over}
use Rattle.limits.specs.Limits.{bytes_most}
use Rattle.refusals.proofs.RefusalLaws.{passed_is, then_next, then_passed, either_passed, answer_passed, unless_passed, none_passed}
use Rattle.types.specs.declared.Header.{Header}
use Rattle.types.specs.Ranges.{header_fits}
use Rattle.types.proofs.RangeLaws.{header_in_lem}
use Rattle.sections.proofs.SectionRecords.{fits_at}
use Rattle.tablerules.specs.Table.{row_good, stretch}
use Rattle.lines.proofs.RowTrip.{RowHeldAt}
use Rattle.rowlines.proofs.RowLaws.{empty_row, values_at, stretch_of}
use Rattle.rowsheet.specs.RowSheet.{Rows, read_sheet, RowsLeft, read_rows_left, sheet_of, rows_in_range, judge_rows}
use Rattle.rowsheet.proofs.LengthLaws.{sheet_most, sheet_most_lem}
use Rattle.rowsheet.proofs.SheetLaws.{sheet_section, room_passed, room_enough}

-- ---- what judging gives
pub record RowsJudged (h : Header) (c : List (List ℤ)) (f : List ℤ) (t : Rows) : Type 0 where
  pub fits : header_fits h ≡ true
  pub rows_room : h.rows ≤ length c
  pub factors_room : h.rows * h.zones ≤ length f
  pub is : t ≡ record { rows = take h.rows c; factors = take (h.rows * h.zones) f }
  pub rows_long : length t.rows ≡ h.rows
  pub factors_long : length t.factors ≡ h.rows * h.zones
  pub good : (i : ℕ) → i < h.rows → row_good (get_or t.rows i []) (stretch h.zones t.factors i) ≡ true

pub rows_judged : (h : Header) (c : List (List ℤ)) (f : List ℤ) (t : Rows) → judge_rows h c f ≡ Ok t → RowsJudged h c f t
unfolding judge_rows rows_in_range
rows_judged h c f t e =
    let a = unless_passed t _ _ _ e in
    let b = room_passed h (length c) (length f) _ t a.1 in
    let r = none_passed _ _ _ _ t b.2 in
    let is : record { rows = take h.rows c; factors = take (h.rows * h.zones) f } ≡ t = passed_is _ t r.1 in
    let rows_long : length (take h.rows c) ≡ h.rows = length-take-le h.rows c b.0 in
    let factors_long : length (take (h.rows * h.zones) f) ≡ h.rows * h.zones = length-take-le (h.rows * h.zones) f b.1 in
    subst (RowsJudged h c f) is
    (record {
      fits = a.0;
      rows_room = b.0;
      factors_room = b.1;
      is = refl;
      rows_long = rows_long;
      factors_long = factors_long;
      good = λ i l. not-false _ (r.0 i (omega (arith, rows_long)));
    })

-- ---- how long their text is
module _ (h : Header) (t : Rows) (fits : header_fits h ≡ true) (rows_long : length t.rows ≡ h.rows) (factors_long : length t.factors ≡ h.rows * h.zones)
    (good : (i : ℕ) → i < h.rows → row_good (get_or t.rows i []) (stretch h.zones t.factors i) ≡ true) where
  -- rows that were written have no more than 60,200 bytes
  pub sheet_length : length (sheet_of h.zones t) ≤ sheet_most
  unfolding sheet_of
  sheet_length =
      let k = header_in_lem h fits in
      sheet_most_lem h.zones t.rows t.factors (factors_long ∙ ap (λ (n : ℕ). n * h.zones) (sym rows_long)) k.zones_most_lem (omega (arith, rows_long, k.rows_most_lem)) (λ i l. good i (omega (arith, rows_long)))

  -- so refusal 1 is never given of them
  pub never_too_long : length (sheet_of h.zones t) ≤ bytes_most
  never_too_long = le_trans sheet_length (lit≤ {m = sheet_most} {n = bytes_most} tt)

-- ---- what reading gives
pub record RowsTaken (h : Header) (sheet : List ℕ) (c : List (List ℤ)) (f : List ℤ) : Type 0 where
  pub it : Rows
  pub read : read_sheet h sheet ≡ Ok it
  pub left : read_rows_left h sheet c f ≡ record { answer = Ok tt; c = over it.rows c; f = over it.factors f }

pub rows_taken : (h : Header) (sheet : List ℕ) (c : List (List ℤ)) (f : List ℤ) → (read_rows_left h sheet c f).answer ≡ Ok tt → RowsTaken h sheet c f
unfolding read_rows_left
rows_taken h sheet c f e =
    let d = answer_passed _ _ _ (λ (l : RowsLeft). l.answer) tt (λ w. refl) e in
    let r = then_passed (read_sheet h sheet) _ d.0 d.1 in
    let n = room_passed h (length c) (length f) _ d.0 r.second in
    record { it = r.it; read = r.first; left = either_passed _ _ (then_next _ r.first ∙ sym (room_enough h (length c) (length f) (Ok r.it) n.0 n.1)) }

-- rows that were read are in range
pub read_good : (h : Header) (sheet : List ℕ) (t : Rows) → read_sheet h sheet ≡ Ok t → (i : ℕ) → i < h.rows → row_good (get_or t.rows i []) (stretch h.zones t.factors i) ≡ true
read_good h sheet t e i l =
    let u = sheet_section h sheet t e in
    let row = fits_at (RowHeldAt h.zones) empty_row u.lines 0 u.held i (omega (arith, u.many)) in
    let v : get_or t.rows i [] ≡ (get_or u.lines i empty_row).values = ap (λ (r : Rows). get_or r.rows i []) u.is ∙ values_at u.lines i in
    let k : stretch h.zones t.factors i ≡ (get_or u.lines i empty_row).factors = ap (λ (r : Rows). stretch h.zones r.factors i) u.is ∙ stretch_of h.zones u.lines 0 u.held i (omega (arith, u.many)) in
    rw (v, k) row.good
