-- The laws of `read_corrected` of `specs/Reading.antt` (02, E2): which judgement decides, one law for each, and what is known of a table that was read with a
-- correction sheet. No contract cites this file.
use Rattle.std.specs.Prelude.{Err, Ok}
use mathlib.Core.Path.{◌≡◌, refl, sym, subst, ◌∙◌}
use mathlib.Core.Bool.{false, cond}
use mathlib.Core.List.{List}
use Prim.Native.Nat.{ℕ, ◌≤◌, ◌<◌}
use lib.Dec.{ltb}
use lib.IntN.{ℤ}
use lib.ListN.{length}
use borrow.Author.Tests.{lt-ltb, le-ltb}
use Rattle.limits.specs.Limits.{bytes_most}
use Rattle.refusals.specs.declared.Refusal.{Refusal}
use Rattle.refusals.specs.Refusals.{Judged, then, too_long, wrong_form}
use Rattle.refusals.proofs.RefusalLaws.{passed_is, then_passed, then_next, then_refused}
use Rattle.types.specs.declared.Header.{Header}
use Rattle.sections.specs.Section.{lines_at}
use Rattle.sections.proofs.SectionRecords.{lines_then}
use Rattle.tablerules.specs.Table.{Table, lent, twice, row_line_no, past_line_no}
use Rattle.tablerules.specs.Good.{Good, Shaped}
use Rattle.lines.specs.Lines.{RowLine, row_line}
use Rattle.corrections.specs.Corrections.{Piece, handed_by, judge_corrections}
use Rattle.rowlines.specs.Rows.{values_of, factors_of, as_given}
use Rattle.rowlines.proofs.PickedLaws.{picked_read}
use Rattle.reading.specs.Reading.{rows_from, lines_by, lines_of, read_text, read_corrected}
use Rattle.reading.specs.Places.{read_short}
use Rattle.reading.proofs.ReadLaws.{cond_passed, Opened, opened, reading, opened_good, opened_shaped}
use Rattle.reading.proofs.JudgedTextLaws.{with_read}

-- ---- the rows as a good sheet corrects them, where the day's lines are good
module _ (text sheet : List ℕ) (h : Header) (nets allocated : List ℤ) (borders : List (List ℤ)) (q : ℕ)
    (left : (pick : Piece → ℕ → Piece) → lines_by pick text ≡ rows_from pick text h nets allocated borders q) where
  pub record Merged : Type 0 where
    pub lines : List RowLine
    pub is : lines_by (handed_by sheet) text ≡ Ok (lent h nets allocated borders (values_of lines) (factors_of lines))

  abbrev after_rows : List RowLine → ℕ → Judged Table
  after_rows rows e = cond (ltb e (length text)) (Err (wrong_form (past_line_no h))) (Ok (lent h nets allocated borders (values_of rows) (factors_of rows)))

  pub lines_merged : (t : Table) → lines_of text ≡ Ok t → judge_corrections h.zones h.rows sheet ≡ Ok tt → Merged
  lines_merged t day good =
      lines_then t (lines_at (row_line h.zones) (row_line_no h) h.rows text q 0) after_rows (sym (left as_given) ∙ day) (λ lines e rows_are rest.
      let l = cond_passed e (length text) (wrong_form (past_line_no h)) _ t rest in
      let c = picked_read h.zones h.rows sheet good (row_line_no h) text h.rows q 0 lines e rows_are in
      record { lines = c.held; is = left (handed_by sheet) ∙ with_read _ after_rows c.held e c.is ∙ rw (le-ltb e (length text) l.0) })

-- ---- which judgement decides
module _ (text sheet : List ℕ) where
  pub sheet_too_long : bytes_most < length sheet → Err too_long ≡ read_corrected text sheet
  unfolding read_corrected
  sheet_too_long l = rw (lt-ltb bytes_most (length sheet) l)

  module _ (short : length sheet ≤ bytes_most) where
    abbrev after_day : Table → Judged Table
    after_day day = then (judge_corrections day.header.zones day.header.rows sheet) (λ _. lines_by (handed_by sheet) text)

    past-length : read_corrected text sheet ≡ then (read_text text) after_day
    unfolding read_corrected
    past-length = rw (le-ltb bytes_most (length sheet) short)

    pub day_refused : (w : Refusal) → Err w ≡ read_text text → Err w ≡ read_corrected text sheet
    day_refused w e = sym (past-length ∙ then_refused after_day (sym e))

    module _ (t : Table) (day : Ok t ≡ read_text text) where
      past-day : read_corrected text sheet ≡ after_day t
      past-day = past-length ∙ then_next after_day (sym day)

      pub sheet_passes : Ok tt ≡ judge_corrections t.header.zones t.header.rows sheet → read_corrected text sheet ≡ lines_by (handed_by sheet) text
      sheet_passes e = past-day ∙ then_next _ (sym e)

    -- ---- the day's length, and then the lines of both
    pub text_too_long : bytes_most < length text → Err too_long ≡ read_corrected text sheet
    unfolding read_text
    text_too_long l = day_refused too_long (rw (lt-ltb bytes_most (length text) l))

    pub texts_short : length text ≤ bytes_most → read_short text sheet ≡ read_corrected text sheet
    unfolding read_text read_short
    texts_short l = sym (past-length ∙ rw (le-ltb bytes_most (length text) l))

-- ---- a table that was read: all but the rows is the day's
pub record Corrected (text sheet : List ℕ) (t : Table) : Type 0 where
  pub day : Table
  pub read : read_text text ≡ Ok day
  pub short : length sheet ≤ bytes_most
  pub good : judge_corrections day.header.zones day.header.rows sheet ≡ Ok tt
  pub others : t ≡ lent day.header day.nets day.allocated day.borders t.rows t.factors
  pub opened : Opened (handed_by sheet) text t

days_others : (day t : Table) (v : List (List ℤ)) (f : List ℤ) → let made = lent day.header day.nets day.allocated day.borders in ◌≡◌ {A = Judged Table} (Ok (made v f)) (Ok t) → t ≡ made t.rows t.factors
days_others day t v f e =
    let made = lent day.header day.nets day.allocated day.borders in
    subst (λ (u : Table). u ≡ made u.rows u.factors) (passed_is (made v f) t e) refl

pub corrected : (text sheet : List ℕ) (t : Table) → read_corrected text sheet ≡ Ok t → Corrected text sheet t
unfolding read_corrected
corrected text sheet t e =
    let a = cond_passed bytes_most (length sheet) too_long _ t e in
    let d = then_passed (read_text text) _ t a.1 in
    let day = d.it in
    let s = then_passed (judge_corrections day.header.zones day.header.rows sheet) _ t d.second in
    let lines = (reading text day d.first).lines in
    let o = opened as_given text day lines in
    let m = lines_merged text sheet day.header day.nets day.allocated day.borders o.q o.left day lines s.first in
    record {
      day = day;
      read = d.first;
      short = a.0;
      good = s.first;
      others = days_others day t _ _ (sym m.is ∙ s.second);
      opened = opened (handed_by sheet) text t s.second;
    }

pub corrected_good : (text sheet : List ℕ) (t : Table) → read_corrected text sheet ≡ Ok t → Good t
corrected_good text sheet t e =
    let c = corrected text sheet t e in
    opened_good (handed_by sheet) text t c.opened
    (subst (λ (u : Table). (b : ℕ) → b < u.header.borders → twice u.borders b ≡ false) (sym c.others) (reading text c.day c.read).once)

pub corrected_shaped : (text sheet : List ℕ) (t : Table) → read_corrected text sheet ≡ Ok t → Shaped t
corrected_shaped text sheet t e = opened_shaped (handed_by sheet) text t (corrected text sheet t e).opened
