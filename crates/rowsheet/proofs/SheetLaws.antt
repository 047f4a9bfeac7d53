-- The laws of `specs/RowSheet.antt`'s reading: what a sheet comes to, what a sheet that passed holds, and what `read_rows` leaves. No contract cites this file.
-- In order: a sheet by its length, header and lines; a sheet that passed; room; what is left.
use Rattle.std.specs.Prelude.{Err, Ok}
use mathlib.Core.Path.{◌≡◌, refl, sym, ap, ◌∙◌}
use mathlib.Core.Bool.{Bool, true, false, cond}
use mathlib.Core.List.{List, ◌++◌}
use Prim.Native.Nat.{ℕ, ◌+◌, ◌*◌, ◌≤◌, ◌<◌}
use borrow.Author.Tests.{ltb-false, lt-ltb, le-ltb}
use lib.Dec.{ltb}
use lib.IntN.{ℤ}
use lib.ListN.{length}
use lib.Seq.{take_at}
use Rattle.numbers.specs.Below.{over}
use Rattle.limits.specs.Limits.{bytes_most}
use Rattle.refusals.specs.declared.Refusal.{Refusal}
use Rattle.refusals.specs.Refusals.{Judged, unless, need, too_long, too_short, wrong_form, out_of_range}
use Rattle.refusals.proofs.RefusalLaws.{passed_is, not_passed, then_next, then_refused, either_passed, either_refused, unless_ok, unless_refused, unless_passed, need_passed, need_enough, need_short}
use Rattle.types.specs.declared.Header.{Header}
use Rattle.types.specs.Ranges.{header_fits}
use Rattle.sections.specs.Section.{Section, read, fault, with_lines}
use Rattle.sections.proofs.SectionLaws.{AllFit}
use Rattle.sections.proofs.SectionRecords.{section_fits, section_long}
use Rattle.lines.specs.Lines.{RowLine}
use Rattle.lines.specs.declared.row.RowKind.TheVariants as row_kind
use Rattle.lines.proofs.RowTrip.{RowHeldAt, row_read_lem}
use Rattle.rowlines.specs.Rows.{cut}
use Rattle.rowlines.proofs.RowLaws.{values_long, factors_long, cut_long, cut_values, cut_factors}
use Rattle.lines.specs.SheetLine.{sheet_line}
use Rattle.rowsheet.specs.RowSheet.{Rows, rows_of, front_rows, first_line_no, lines_in, sheet_rows, read_sheet, row_room, RowsLeft, read_rows_left, rows_said}

-- ---- a sheet by its length, header and lines
module _ (h : Header) (sheet : List ℕ) where
  pub sheet_long : bytes_most < length sheet → Err too_long ≡ read_sheet h sheet
  unfolding read_sheet
  sheet_long l = rw (lt-ltb bytes_most (length sheet) l)

  module _ (l : length sheet ≤ bytes_most) where
    pub sheet_header : header_fits h ≡ false → Err (out_of_range 1) ≡ read_sheet h sheet
    unfolding read_sheet
    sheet_header e = rw (le-ltb bytes_most (length sheet) l) (sym (unless_refused _ _ e))

    module _ (e : header_fits h ≡ true) where
      past : sheet_rows h sheet ≡ read_sheet h sheet
      unfolding read_sheet
      past = rw (le-ltb bytes_most (length sheet) l) (sym (unless_ok _ _ e))

      abbrev at_end : List RowLine → ℕ → Judged Rows
      at_end lines e = cond (ltb e (length sheet)) (Err (wrong_form (first_line_no + h.rows))) (Ok (rows_of lines))

      pub sheet_fault : (w : Refusal) → fault w ≡ lines_in h sheet → Err w ≡ read_sheet h sheet
      sheet_fault w q = ap (λ (b : Section RowLine). with_lines b at_end) q ∙ past

      module _ (c : List (List ℤ)) (f : List ℤ) (next : ℕ) (section : read (cut h.zones c f) next ≡ lines_in h sheet) where
        pub sheet_more : next < length sheet → Err (wrong_form (1 + h.rows)) ≡ read_sheet h sheet
        sheet_more k = (rw (lt-ltb next (length sheet) k)) ∙ ap (λ (b : Section RowLine). with_lines b at_end) section ∙ past

        rows_long : length c ≡ h.rows
        rows_long = sym (cut_long h.zones c f) ∙ section_long _ first_line_no h.rows sheet 0 0 (cut h.zones c f) next (sym section)

        rows_are : (c' : List (List ℤ)) (f' : List ℤ) → length f ≡ h.rows * h.zones → front_rows h (c ++ c') (f ++ f') ≡ rows_of (cut h.zones c f)
        rows_are c' f' long = rw (take_at c c' h.rows rows_long, take_at f f' (h.rows * h.zones) long, cut_values h.zones c f, cut_factors h.zones c f (long ∙ ap (λ (n : ℕ). n * h.zones) (sym rows_long)))

        at-end : length sheet ≤ next → Ok (rows_of (cut h.zones c f)) ≡ at_end (cut h.zones c f) next
        at-end k = rw (le-ltb next (length sheet) k)

        pub sheet_good : (c' : List (List ℤ)) (f' : List ℤ) → length f ≡ h.rows * h.zones → length sheet ≤ next → Ok (front_rows h (c ++ c') (f ++ f')) ≡ read_sheet h sheet
        sheet_good c' f' long k = ap Ok (rows_are c' f' long) ∙ at-end k ∙ ap (λ (b : Section RowLine). with_lines b at_end) section ∙ past

-- ---- a sheet that passed
pub record SheetSection (h : Header) (sheet : List ℕ) (t : Rows) : Type 0 where
  pub short : length sheet ≤ bytes_most
  pub fits : header_fits h ≡ true
  pub lines : List RowLine
  pub end : ℕ
  pub section : lines_in h sheet ≡ read lines end
  pub last : length sheet ≤ end
  pub is : t ≡ rows_of lines
  pub many : length lines ≡ h.rows
  pub held : AllFit (RowHeldAt h.zones) 0 lines

pub sheet_section : (h : Header) (sheet : List ℕ) (t : Rows) → read_sheet h sheet ≡ Ok t → SheetSection h sheet t
unfolding read_sheet
sheet_section h sheet t e = long (ltb bytes_most (length sheet)) refl e
  where
    at-end : length sheet ≤ bytes_most → header_fits h ≡ true → (xs : List RowLine) (m : ℕ) → lines_in h sheet ≡ read xs m → (u : Bool) → ltb m (length sheet) ≡ u → cond u (Err (wrong_form (first_line_no + h.rows))) (Ok (rows_of xs)) ≡ Ok t → SheetSection h sheet t
    at-end l f xs m q true k e = absurd (not_passed (wrong_form (first_line_no + h.rows)) t e)
    at-end l f xs m q false k e =
        let r = section_fits (sheet_line h.zones) first_line_no (RowHeldAt h.zones) (λ line i a g. (row_read_lem row_kind.Sheet h.zones line i a g).1) h.rows sheet 0 0 xs m q in
        record { short = l; fits = f; lines = xs; end = m; section = q; last = ltb-false m (length sheet) k; is = sym (passed_is (rows_of xs) t e); many = r.0; held = r.1 }

    lined : length sheet ≤ bytes_most → header_fits h ≡ true → (b : Section RowLine) → lines_in h sheet ≡ b → with_lines b (λ lines e. cond (ltb e (length sheet)) (Err (wrong_form (first_line_no + h.rows))) (Ok (rows_of lines))) ≡ Ok t → SheetSection h sheet t
    lined l f (fault w) q e = absurd (not_passed w t e)
    lined l f (read xs m) q e = at-end l f xs m q (ltb m (length sheet)) refl e

    long : (u : Bool) → ltb bytes_most (length sheet) ≡ u → cond u (Err too_long) (unless (header_fits h) (out_of_range 1) (sheet_rows h sheet)) ≡ Ok t → SheetSection h sheet t
    long true k e = absurd (not_passed too_long t e)
    long false k e =
        let p = unless_passed t (header_fits h) (out_of_range 1) (sheet_rows h sheet) e in
        lined (ltb-false bytes_most (length sheet) k) p.0 (lines_in h sheet) refl p.1

module _ {h : Header} {sheet : List ℕ} {t : Rows} (u : SheetSection h sheet t) where
  pub rows_many : length t.rows ≡ h.rows
  rows_many = ap (λ (r : Rows). length r.rows) u.is ∙ values_long u.lines ∙ u.many

  pub factors_many : length t.factors ≡ h.rows * h.zones
  factors_many = ap (λ (r : Rows). length r.factors) u.is ∙ factors_long h.zones u.lines 0 u.held ∙ ap (λ (n : ℕ). n * h.zones) u.many

-- ---- room
module _ (h : Header) (c f : ℕ) where
  module _ {A : Type 0} (next : Judged A) where
    pub room_short_c : c < h.rows → Err (too_short h.rows) ≡ row_room h c f next
    unfolding row_room
    room_short_c l = sym (need_short _ _ _ l)

    module _ (hc : h.rows ≤ c) where
      pub room_short_f : f < h.rows * h.zones → Err (too_short (h.rows * h.zones)) ≡ row_room h c f next
      unfolding row_room
      room_short_f l = sym (need_enough _ _ _ hc ∙ need_short _ _ _ l)

      pub room_enough : h.rows * h.zones ≤ f → next ≡ row_room h c f next
      unfolding row_room
      room_enough l = sym (need_enough _ _ _ hc ∙ need_enough _ _ _ l)

  pub room_passed : {A : Type 0} (next : Judged A) (a : A) → row_room h c f next ≡ Ok a → (h.rows ≤ c) × (h.rows * h.zones ≤ f) × (next ≡ Ok a)
  unfolding row_room
  room_passed next a e =
      let p = need_passed a _ _ _ e in
      let q = need_passed a _ _ _ p.1 in
      (p.0, q.0, q.1)

  -- lengths are judged the same way whatever comes next
  pub room_refused : {A B : Type 0} (a : A) (next : Judged B) (w : Refusal) → row_room h c f (Ok a) ≡ Err w → row_room h c f next ≡ Err w
  unfolding row_room need
  room_refused a next w e = go (ltb c h.rows) (ltb f (h.rows * h.zones)) e
    where
      go : (t u : Bool) → cond t (Err (too_short h.rows)) (cond u (Err (too_short (h.rows * h.zones))) (Ok a)) ≡ Err w → cond t (Err (too_short h.rows)) (cond u (Err (too_short (h.rows * h.zones))) next) ≡ Err w
      go true u e = cc
      go false true e = cc
      go false false e = absurd (not_passed w a (sym e))

-- ---- what is left
module _ (h : Header) (sheet : List ℕ) (c : List (List ℤ)) (f : List ℤ) where
  abbrev filled_by : Rows → RowsLeft
  filled_by t = record { answer = Ok tt; c = over t.rows c; f = over t.factors f }

  abbrev as_it_was : Refusal → RowsLeft
  as_it_was w = record { answer = Err w; c = c; f = f }

  pub sheet_refused : (w : Refusal) → Err w ≡ read_sheet h sheet → rows_said (Err w) c f ≡ read_rows_left h sheet c f
  unfolding read_rows_left
  sheet_refused w e = sym (either_refused filled_by as_it_was (then_refused _ (sym e)))

  module _ (t : Rows) (is : Ok t ≡ read_sheet h sheet) where
    pub left_short : (w : Refusal) → Err w ≡ row_room h (length c) (length f) (Ok h) → rows_said (Err w) c f ≡ read_rows_left h sheet c f
    unfolding read_rows_left
    left_short w e = sym (either_refused filled_by as_it_was (then_next _ (sym is) ∙ room_refused h (length c) (length f) h (Ok t) w (sym e)))

    pub left_filled : Ok h ≡ row_room h (length c) (length f) (Ok h) → rows_said (Ok tt) (over t.rows c) (over t.factors f) ≡ read_rows_left h sheet c f
    unfolding read_rows_left
    left_filled room =
        let n = room_passed h (length c) (length f) (Ok h) h (sym room) in
        sym (either_passed filled_by as_it_was (then_next _ (sym is) ∙ sym (room_enough h (length c) (length f) (Ok t) n.0 n.1)))
