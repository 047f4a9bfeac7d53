-- The round trip of the planners' sheet (02, E11), both ways: rows that were read and are written again give the same text (`read-write`), and rows that are
-- written read back as themselves (`write_read`); the same of what the calls leave is `read-then-write` and `write-then-read`.
-- What is written has no more than 60,200 bytes (of the call `written-most`; of rows `sheet-length` in crate rowsheet).
use Rattle.std.specs.Prelude.{Err, Ok}
use mathlib.Core.Path.{◌≡◌, refl, sym, ap, ap₂, subst, ◌∙◌}
use mathlib.Core.Bool.{true, not, cond}
use mathlib.Core.Logic.{⊎_elim}
use mathlib.Core.List.{List, [], ◌++◌, append-nil}
use Prim.Native.Nat.{ℕ, ◌+◌, ◌*◌, ◌^◌, ◌≤◌, ◌<◌}
use native.Mathlib.Omega.{arith}
use borrow.Author.Tests.{le-ltb}
use lib.Dec.{ltb}
use lib.IntN.{ℤ}
use lib.ListN.{length, get_or, take, drop, drop_of_length-le, length-drop, length-append}
use lib.Seq.{take_at}
use Rattle.numbers.specs.Below.{over}
use Rattle.numbers.proofs.BelowLaws.{le_or_lt}
use Rattle.limits.specs.Limits.{bytes_most}
use Rattle.refusals.specs.Refusals.{Judged, too_short, wrong_form}
use Rattle.refusals.proofs.RefusalLaws.{passed_is, not_passed, then_next, then_refused, either_passed, unless_ok, none_next}
use Rattle.types.specs.declared.Header.{Header}
use Rattle.types.specs.LineColumns.{row_items}
use Rattle.types.specs.Ranges.{header_fits}
use Rattle.types.proofs.RangeLaws.{header_in_lem}
use Rattle.text.specs.Left.{TextLeft, text_left}
use Rattle.text.proofs.LeftLaws.{text_refused, text_short, text_left_lem}
use Rattle.sections.proofs.SectionLaws.{section_text, AllFit, section_read}
use Rattle.sections.proofs.SectionRecords.{fits_all, lines_goes}
use Rattle.tablerules.specs.Table.{row_good, stretch}
use Rattle.tablerules.proofs.GoodLaws.{stretch_long}
use Rattle.lines.specs.Lines.{RowLine}
use Rattle.lines.specs.declared.row.RowKind.TheVariants as row_kind
use Rattle.lines.proofs.RowTrip.{text_by, RowHeld, RowHeldAt, row_read_lem, row_written, row_one}
use Rattle.rowlines.specs.Rows.{values_of, factors_of, cut}
use Rattle.rowlines.proofs.RowLaws.{empty_row, values_at, cut_long, cut_values, cut_factors, cut_at}
use Rattle.lines.specs.SheetLine.{sheet_line}
use Rattle.trips.proofs.SectionTrip.{rows_section_lem}
use Rattle.rowsheet.specs.RowSheet.{Rows, rows_of, first_line_no, sheet_rows, read_sheet, RowsLeft, read_rows_left, sheet_of, rows_in_range, judge_rows, write_rows_left}
use Rattle.rowsheet.proofs.LengthLaws.{sheet_most}
use Rattle.rowsheet.proofs.SheetLaws.{sheet_section, rows_many, factors_many, room_enough}
use Rattle.rowsheet.proofs.JudgedLaws.{rows_judged, sheet_length, never_too_long, rows_taken, read_good}

-- ---- the sheet of rows is the lines that hold them
abbrev line_text_of : (i : ℕ) → RowLine → List ℕ
line_text_of = text_by row_kind.Sheet

sheet_lines : (zones : ℕ) (t : Rows) (lines : List RowLine) → values_of lines ≡ t.rows → factors_of lines ≡ t.factors → AllFit (RowHeldAt zones) 0 lines → sheet_of zones t ≡ section_text line_text_of 0 lines
unfolding sheet_of
sheet_lines zones t lines values_are factors_are held = rows_section_lem row_kind.Sheet zones t.rows t.factors lines values_are factors_are held

-- ---- read, and written again
pub read_write : (h : Header) (sheet : List ℕ) (t : Rows) → read_sheet h sheet ≡ Ok t → sheet_of h.zones t ≡ sheet
read_write h sheet t e =
    let u = sheet_section h sheet t e in
    let b = (section_read (sheet_line h.zones) first_line_no line_text_of (λ line i c q. (row_read_lem row_kind.Sheet h.zones line i c q).0) h.rows sheet 0 0 u.lines u.end u.section).0 in
    let none : drop u.end sheet ≡ [] = drop_of_length-le sheet u.last in
    sheet_lines h.zones t u.lines (sym (ap (λ (r : Rows). r.rows) u.is)) (sym (ap (λ (r : Rows). r.factors) u.is)) u.held
    ∙ sym (append-nil (section_text line_text_of 0 u.lines)) ∙ ap (λ (l : List ℕ). section_text line_text_of 0 u.lines ++ l) (sym none) ∙ sym b

-- ---- written, and read again
-- what a lent row record's type says of it: seven numbers
abbrev pub Wide : Header → Rows → Type 0
Wide h t = (i : ℕ) → i < h.rows → length (get_or t.rows i []) ≡ row_items

module _ (h : Header) (t : Rows) (fits : header_fits h ≡ true) (rows_long : length t.rows ≡ h.rows) (factors_long : length t.factors ≡ h.rows * h.zones)
    (good : (i : ℕ) → i < h.rows → row_good (get_or t.rows i []) (stretch h.zones t.factors i) ≡ true) where
  lines : List RowLine
  lines = cut h.zones t.rows t.factors

  lines_long : length lines ≡ h.rows
  unfolding lines
  lines_long = cut_long h.zones t.rows t.factors ∙ rows_long

  values_are : values_of lines ≡ t.rows
  unfolding lines
  values_are = cut_values h.zones t.rows t.factors

  factors_are : factors_of lines ≡ t.factors
  unfolding lines
  factors_are = cut_factors h.zones t.rows t.factors (factors_long ∙ ap (λ (n : ℕ). n * h.zones) (sym rows_long))

  module _ (wide : Wide h t) where
    row-held : (i : ℕ) → i < h.rows → RowHeld h.zones (get_or lines i empty_row)
    unfolding lines
    row-held i l =
        let v : get_or t.rows i [] ≡ (get_or lines i empty_row).values = ap (λ (rows : List (List ℤ)). get_or rows i []) (sym values_are) ∙ values_at lines i in
        let f : stretch h.zones t.factors i ≡ (get_or lines i empty_row).factors = sym (cut_at h.zones t.rows t.factors i (omega (arith, rows_long))) in
        record {
          wide = ap length (sym v) ∙ wide i l;
          long = ap length (sym f) ∙ stretch_long h.zones h.rows t.factors factors_long i l;
          good = rw (← v, ← f) (good i l);
        }

    abbrev Fits : ℕ → RowLine → Type 0
    Fits i c = (i < 10 ^ 10) × RowHeld h.zones c

    fit : AllFit Fits 0 lines
    fit = fits_all Fits empty_row lines 0 (λ k l. (omega (arith, lines_long, (header_in_lem h fits).rows_most_lem), row-held k (omega (arith, lines_long))))

    held : AllFit (RowHeldAt h.zones) 0 lines
    held = fits_all (RowHeldAt h.zones) empty_row lines 0 (λ k l. row-held k (omega (arith, lines_long)))

    back : sheet_rows h (sheet_of h.zones t) ≡ Ok t
    back =
        let sheet = sheet_of h.zones t in
        let here : drop 0 sheet ≡ section_text line_text_of 0 lines ++ [] = sheet_lines h.zones t lines values_are factors_are held ∙ sym (append-nil (section_text line_text_of 0 lines)) in
        lines_goes (sheet_line h.zones) first_line_no line_text_of Fits (λ i c q. row_written h.zones c q.1 row_kind.Sheet i q.0) (row_one row_kind.Sheet)
        (λ xs e. cond (ltb e (length sheet)) (Err (wrong_form (first_line_no + h.rows))) (Ok (rows_of xs))) (Ok t) lines h.rows sheet 0 [] lines_long here fit (λ next none. ended next none)
      where
        ended : (next : ℕ) → drop next (sheet_of h.zones t) ≡ [] → cond (ltb next (length (sheet_of h.zones t))) (Err (wrong_form (first_line_no + h.rows))) (Ok (rows_of lines)) ≡ Ok t
        ended next none =
            let past : length (sheet_of h.zones t) ≤ next = omega (arith, length-drop next (sheet_of h.zones t), ap length none) in
            rw (le-ltb next (length (sheet_of h.zones t)) past) (ap Ok (ap₂ {C = Rows} (λ (r : List (List ℤ)) (f : List ℤ). record { rows = r; factors = f }) values_are factors_are))

    pub write_read : read_sheet h (sheet_of h.zones t) ≡ Ok t
    unfolding read_sheet
    write_read = rw (le-ltb bytes_most (length (sheet_of h.zones t)) (never_too_long h t fits rows_long factors_long good)) (unless_ok _ _ fits ∙ back)

-- ---- the same of the calls
-- rows that were read are judged good, whatever stands behind them
read_judged : (h : Header) (sheet : List ℕ) (t : Rows) (c : List (List ℤ)) (f : List ℤ) → read_sheet h sheet ≡ Ok t → judge_rows h (over t.rows c) (over t.factors f) ≡ Ok t
unfolding judge_rows rows_in_range
read_judged h sheet t c f e =
    let u = sheet_section h sheet t e in
    let n = rows_many u in
    let m = factors_many u in
    let rows : take h.rows (over t.rows c) ≡ t.rows = take_at t.rows _ h.rows n in
    let factors : take (h.rows * h.zones) (over t.factors f) ≡ t.factors = take_at t.factors _ (h.rows * h.zones) m in
    unless_ok _ _ u.fits
    ∙ sym (room_enough h _ _ _ (omega (arith, n, length-append t.rows (drop (length t.rows) c))) (omega (arith, m, length-append t.factors (drop (length t.factors) f))))
    ∙ rw (rows, factors) (none_next _ _ _ _ (λ i l. ap not (read_good h sheet t e i (omega (arith, n)))))

-- what `read_rows` left, `write_rows` writes again as the very sheet it was read from
pub read_then_write : (h : Header) (sheet : List ℕ) (c : List (List ℤ)) (f : List ℤ) (out : List ℕ) → let r = read_rows_left h sheet c f in r.answer ≡ Ok tt → length sheet ≤ length out
    → write_rows_left h r.c r.f out ≡ record { answer = Ok (length sheet); out = over sheet out }
unfolding write_rows_left
read_then_write h sheet c f out e room =
    let u = rows_taken h sheet c f e in
    let t = u.it in
    ap (λ (l : RowsLeft). write_rows_left h l.c l.f out) u.left
    ∙ ap (λ (j : Judged (List ℕ)). text_left j out) (then_next _ (read_judged h sheet t c f u.read) ∙ ap Ok (read_write h sheet t u.read))
    ∙ text_left_lem sheet out room

-- the rows that a call looks at: the front of what it was lent
abbrev pub front_rows : Header → (c : List (List ℤ)) → (f : List ℤ) → Rows
front_rows h c f = record { rows = take h.rows c; factors = take (h.rows * h.zones) f }

-- what `write_rows` wrote is the sheet of the front of what was lent
pub record RowsWritten (h : Header) (c : List (List ℤ)) (f : List ℤ) (out : List ℕ) (n : ℕ) : Type 0 where
  pub judged : judge_rows h c f ≡ Ok (front_rows h c f)
  pub bytes : length (sheet_of h.zones (front_rows h c f)) ≡ n
  pub left : (write_rows_left h c f out).out ≡ over (sheet_of h.zones (front_rows h c f)) out

pub rows_written : (h : Header) (c : List (List ℤ)) (f : List ℤ) (out : List ℕ) (n : ℕ) → (write_rows_left h c f out).answer ≡ Ok n → RowsWritten h c f out n
unfolding write_rows_left
rows_written h c f out n e = go (judge_rows h c f) refl
  where
    go : (j : Judged Rows) → judge_rows h c f ≡ j → RowsWritten h c f out n
    go (Err w) q = absurd (not_passed w n (ap (λ (l : TextLeft). l.answer) (text_refused out (then_refused _ q)) ∙ e))
    go (Ok t) q =
        let sheet = sheet_of h.zones t in
        let call : write_rows_left h c f out ≡ text_left (Ok sheet) out = ap (λ (j : Judged (List ℕ)). text_left j out) (then_next _ q) in
        ⊎_elim
        (λ (room : length sheet ≤ length out).
        let done = call ∙ text_left_lem sheet out room in
        subst (λ (u : Rows). judge_rows h c f ≡ Ok u → length (sheet_of h.zones u) ≡ n → (write_rows_left h c f out).out ≡ over (sheet_of h.zones u) out → RowsWritten h c f out n)
        (sym (rows_judged h c f t q).is) (λ judged bytes left. record { judged = judged; bytes = bytes; left = left })
        q (passed_is _ _ (sym (ap (λ (l : TextLeft). l.answer) done) ∙ e)) (ap (λ (l : TextLeft). l.out) done))
        (λ (short : length out < length sheet).
        absurd (not_passed (too_short (length sheet)) n (ap (λ (l : TextLeft). l.answer) (text_short sheet out (length sheet) refl short ∙ sym call) ∙ e)))
        (le_or_lt (length sheet) (length out))

-- the call asks for no more than 60,200 bytes
pub written_most : (h : Header) (c : List (List ℤ)) (f : List ℤ) (out : List ℕ) (n : ℕ) → (write_rows_left h c f out).answer ≡ Ok n → n ≤ sheet_most
written_most h c f out n e =
    let w = rows_written h c f out n e in
    let t = front_rows h c f in
    let j = rows_judged h c f t w.judged in
    subst (λ (k : ℕ). k ≤ sheet_most) w.bytes (sheet_length h t j.fits j.rows_long j.factors_long j.good)

-- what `write_rows` wrote, `read_rows` reads back into tables with room for it: the records and factors that were lent, as many as the header says
pub write_then_read : (h : Header) (c : List (List ℤ)) (f : List ℤ) (out : List ℕ) (n : ℕ) (c' : List (List ℤ)) (f' : List ℤ) → let t = front_rows h c f in let w = write_rows_left h c f out in
    Wide h t → w.answer ≡ Ok n → h.rows ≤ length c' → h.rows * h.zones ≤ length f'
    → read_rows_left h (take n w.out) c' f' ≡ record { answer = Ok tt; c = over t.rows c'; f = over t.factors f' }
unfolding read_rows_left
write_then_read h c f out n c' f' wide e hc hf =
    let t = front_rows h c f in
    let w = rows_written h c f out n e in
    let j = rows_judged h c f t w.judged in
    let sheet : take n (write_rows_left h c f out).out ≡ sheet_of h.zones t = ap (take n) w.left ∙ take_at (sheet_of h.zones t) _ n w.bytes in
    ap (λ (s : List ℕ). read_rows_left h s c' f') sheet
    ∙ either_passed _ _ (then_next _ (write_read h t j.fits j.rows_long j.factors_long j.good wide) ∙ sym (room_enough h (length c') (length f') (Ok t) hc hf))
