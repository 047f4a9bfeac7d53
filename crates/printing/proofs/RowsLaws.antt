-- That what the calls on rows (02, E11) leave is what a program is to print (specs/Printed.antt). No contract cites this file.
-- In order: a table with the rows of a sheet is good; no rows as a sheet are too long; lent tables that hold a good one: their rows are judged good, and what is
-- said where a sheet fills them.
use Rattle.std.specs.Prelude.{Err, Ok}
use mathlib.Core.Path.{◌≡◌, refl, sym, subst, ap, ◌∙◌}
use mathlib.Core.Bool.{true, not}
use mathlib.Core.List.{List, []}
use Prim.Native.Nat.{ℕ, ◌*◌, ◌≤◌, ◌<◌}
use native.Mathlib.Omega.{arith}
use lib.IntN.{ℤ}
use lib.ListN.{length, get_or, take, drop, length-append, take-append-drop}
use lib.Seq.{take_at}
use Rattle.numbers.specs.Below.{over}
use Rattle.limits.specs.Limits.{bytes_most}
use Rattle.refusals.specs.declared.Refusal.{Refusal}
use Rattle.refusals.specs.Answers.{said_judgement}
use Rattle.refusals.specs.Refusals.{Judged, Ruling}
use Rattle.refusals.proofs.RefusalLaws.{passed_is, refused_is, not_passed, then_passed, then_next, then_refused, either_passed, either_refused, unless_ok, none_next}
use Rattle.types.specs.declared.Header.{Header}
use Rattle.types.proofs.RangeLaws.{header_in_lem}
use Rattle.text.specs.Left.{text_left, text_said}
use Rattle.tablerules.specs.Table.{Table, lent, stretch, factors_at, row_good, front}
use Rattle.tablerules.specs.Good.{Good}
use Rattle.tablerules.proofs.GoodLaws.{stretch_long, row_good_lem, good_row, flat_fit, row_fit}
use Rattle.writing.specs.Writing.{table_text}
use Rattle.writing.proofs.LengthLaws.{never_too_long}
use Rattle.rowsheet.specs.RowSheet.{Rows, RowsLeft, read_sheet, judge_rows, rows_in_range, rows_said, read_rows_left}
use Rattle.rowsheet.proofs.SheetLaws.{sheet_section, rows_many, factors_many, room_enough}
use Rattle.rowsheet.proofs.JudgedLaws as sheet
use Rattle.printing.specs.Printed.{Said, rows_in, sheet_said, with_rows, filled_by}
use Rattle.printing.proofs.PrintedLaws.{said_as, said_refused}

-- ---- a table with the rows of a sheet is good
rows_good : {t : Table} (g : Good t) (i : ℕ) → i < t.header.rows → row_good (get_or t.rows i []) (factors_at t i) ≡ true
rows_good {t} g i l =
    let h = t.header in
    let some : 0 < h.zones = omega (arith, (header_in_lem h g.exact.header).zones_least_lem) in
    good_row (get_or t.rows i []) (factors_at t i) (g.rows_fit i l)
    (λ z m. row_fit h.zones h.rows t.factors g.exact.factors_long some g.factors_fit i l z
    (rw (stretch_long h.zones h.rows t.factors g.exact.factors_long i l) at m))

filled_good : {t : Table} (g : Good t) (file : List ℕ) (r : Rows) → read_sheet t.header file ≡ Ok r → Good (with_rows t r)
filled_good {t} g file r e =
    let h = t.header in
    let u = sheet_section h file r e in
    let some : 0 < h.zones = omega (arith, (header_in_lem h g.exact.header).zones_least_lem) in
    let rows : (i : ℕ) → i < h.rows → row_good (get_or r.rows i []) (stretch h.zones r.factors i) ≡ true = sheet.read_good h file r e in
    record {
      exact = record {
        header = g.exact.header;
        nets_long = g.exact.nets_long;
        allocated_long = g.exact.allocated_long;
        borders_long = g.exact.borders_long;
        rows_long = rows_many u;
        factors_long = factors_many u;
      };
      nets_fit = g.nets_fit;
      allocated_fit = g.allocated_fit;
      in_balance = g.in_balance;
      borders_fit = g.borders_fit;
      rows_fit = λ i l. (row_good_lem (get_or r.rows i []) (stretch h.zones r.factors i) (rows i l)).0;
      factors_fit = flat_fit h.zones h.rows r.factors (factors_many u) some (λ i l. (row_good_lem (get_or r.rows i []) (stretch h.zones r.factors i) (rows i l)).1);
      once = g.once;
    }

-- ---- the rows as a sheet
module _ (h : Header) (c : List (List ℤ)) (f : List ℤ) where
  pub sheet_fits : (text : List ℕ) → sheet_said h c f ≡ Ok text → length text ≤ bytes_most
  sheet_fits text e =
      let d = then_passed (judge_rows h c f) _ text e in
      let j = sheet.rows_judged h c f d.it d.first in
      subst (λ (s : List ℕ). length s ≤ bytes_most) (passed_is _ _ d.second) (sheet.never_too_long h d.it j.fits j.rows_long j.factors_long j.good)

-- ---- lent tables whose front is good are as long as it
front_long : {A : Type 0} (n : ℕ) (xs : List A) → length (take n xs) ≡ n → n ≤ length xs
front_long n xs e = omega (arith, ap length (take-append-drop n xs), length-append (take n xs) (drop n xs))

module _ (given : Table) (good : Good (front given)) where
  abbrev h : Header
  h = given.header

  rows-enough : h.rows ≤ length given.rows
  rows-enough = front_long h.rows given.rows good.exact.rows_long

  factors-enough : h.rows * h.zones ≤ length given.factors
  factors-enough = front_long (h.rows * h.zones) given.factors good.exact.factors_long

  -- ---- the rows of such tables are judged good
  pub rows_pass : judge_rows h given.rows given.factors ≡ Ok (rows_in (front given))
  unfolding judge_rows rows_in_range
  rows_pass =
      unless_ok _ _ good.exact.header
      ∙ sym (room_enough h _ _ _ rows-enough factors-enough)
      ∙ none_next _ _ _ _ (λ i l. ap not (rows_good good i (omega (arith, good.exact.rows_long))))

  -- ---- the table with the rows of a sheet
  module _ (file : List ℕ) (r : Ruling) (c' : List (List ℤ)) (f' : List ℤ) (said : rows_said r c' f' ≡ read_rows_left h file given.rows given.factors) where
    abbrev left : Table
    left = lent h given.nets given.allocated given.borders c' f'

    -- a sheet that was read: the front of the tables is the table with its rows
    record Filled : Type 0 where
      rows : Rows
      read : read_sheet h file ≡ Ok rows
      is : front left ≡ with_rows (front given) rows

    module _ (passes : r ≡ (Ok tt)) where
      filled : Filled
      filled =
          let l : read_rows_left h file given.rows given.factors ≡ rows_said (Ok tt) c' f' = sym said ∙ ap (λ (j : Ruling). rows_said j c' f') passes in
          let d = sheet.rows_taken h file given.rows given.factors (ap (λ (x : RowsLeft). x.answer) l) in
          let same : rows_said (Ok tt) c' f' ≡ record { answer = Ok tt; c = over d.it.rows given.rows; f = over d.it.factors given.factors } = sym l ∙ d.left in
          let u = sheet_section h file d.it d.read in
          record {
            rows = d.it;
            read = d.read;
            is =
                ap (λ (x : RowsLeft). front (lent h given.nets given.allocated given.borders x.c x.f)) same
                ∙ rw (take_at d.it.rows (drop (length d.it.rows) given.rows) h.rows (rows_many u), take_at d.it.factors (drop (length d.it.factors) given.factors) (h.rows * h.zones) (factors_many u));
          }

      pub filled_front : Good (front left)
      filled_front = subst Good (sym filled.is) (filled_good good file filled.rows filled.read)

      pub filled_said : (out : List ℕ) → bytes_most ≤ length out → (x : Judged ℕ) {out' : List ℕ} → text_said x out' ≡ text_left (Ok (table_text (front left))) out
          → Said x (filled_by file (front given)) out out'
      unfolding filled_by
      filled_said out room x l =
          said_as (ap (λ (t : Table). Ok (table_text t)) filled.is ∙ sym (then_next _ filled.read))
          (record { left = l; fits = λ text e. subst (λ (s : List ℕ). length s ≤ length out) (passed_is _ _ e) (omega (arith, never_too_long (front left) filled_front, room)) })

    pub unfilled_said : (w : Refusal) → r ≡ Err w → (out : List ℕ) → Said (Err w) (filled_by file (front given)) out out
    unfolding filled_by read_rows_left
    unfilled_said w is out = said_refused _ w out (then_refused _ (go (read_sheet h file) refl))
      where
        told : (x : RowsLeft) → read_rows_left h file given.rows given.factors ≡ x → Err w ≡ x.answer
        told x q = ap (λ (j : Ruling). said_judgement j tt) (sym is) ∙ ap (λ (l : RowsLeft). l.answer) (said ∙ q)

        go : (j : Judged Rows) → read_sheet h file ≡ j → read_sheet h file ≡ Err w
        go (Ok t) q = absurd (not_passed w tt (told _ (either_passed _ _ (then_next _ q ∙ sym (room_enough h (length given.rows) (length given.factors) (Ok t) rows-enough factors-enough)))))
        go (Err v) q = q ∙ ap Err (sym (refused_is {A = Unit {0}} w v (told _ (either_refused _ _ (then_refused _ q)))))
