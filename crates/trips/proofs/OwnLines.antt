-- 02, E2: a correction sheet of all the day's own rows changes nothing, as C lines or as lines of the planners' sheet (02, E11).
-- In order: the line written of a row; the lines of rows are a good sheet; each is handed on for its own row; the sheet's kind; the day with its own rows.
use Rattle.std.specs.Prelude.{Err, Ok}
use mathlib.Core.Path.{◌≡◌, refl, sym, ap, ap₂, subst, ◌∙◌}
use mathlib.Core.Bool.{Bool, cond}
use mathlib.Core.List.{List, [], ◌∷◌, ◌++◌}
use Prim.Native.Nat.{ℕ, zero, suc, ◌+◌, ◌^◌, ◌≤◌, ◌<◌}
use native.Mathlib.Nat.{not-suc-le-zero, zero-add}
use native.Mathlib.Omega.{arith}
use borrow.Author.Tests.{eq-eqb, ne_eqb, le-ltb}
use lib.Dec.{ltb, eqb}
use lib.IntN.{ℤ}
use lib.ListN.{length, drop, length-append}
use lib.Seq.{drop-append_seam}
use Rattle.limits.specs.Limits.{bytes_most}
use Rattle.refusals.specs.Refusals.{Judged, wrong_form}
use Rattle.types.proofs.RangeLaws.{header_in_lem}
use Rattle.text.specs.Fields.{number_at}
use Rattle.text.specs.Line.{line_at, after, Line}
use Rattle.text.specs.Written.{text_of, decimal}
use Rattle.text.proofs.NumberTrip.{number_read}
use Rattle.columns.specs.ColumnText.{index_text, head_text, columns_text}
use Rattle.sections.specs.Section.{read, more, on_line, lines_at}
use Rattle.sections.proofs.SectionLaws.{section_text, AllFit}
use Rattle.sections.proofs.SectionRecords.{fits_at, fits_all}
use Rattle.tablerules.specs.Table.{Table, lent, row_line_no, past_line_no}
use Rattle.lines.specs.Lines.{RowLine, row_line}
use Rattle.lines.specs.RowKinds.{sep_by}
use Rattle.lines.specs.SaidRow.{line_by}
use Rattle.lines.specs.declared.row.RowKind.{RowKind}
use Rattle.lines.specs.declared.row.RowKind.TheVariants as row_kind
use Rattle.lines.proofs.RowTrip.{text_by, RowHeld, RowHeldAt, row_written, row_one}
use Rattle.corrections.specs.Corrections.{pieces, sheet_kind, index_place, Piece, piece, row_in, of_row, handed_on, handed_by, given_index, due_index, judge_from, judge_corrections}
use Rattle.corrections.proofs.PieceLaws.{pieces_at}
use Rattle.corrections.proofs.SheetLaws.{row_index, due_own}
use Rattle.rowlines.specs.Rows.{values_of, factors_of, as_given, picked_row}
use Rattle.rowlines.proofs.RowLaws.{empty_row}
use Rattle.reading.specs.Reading.{read_text, read_corrected}
use Rattle.reading.proofs.ReadLaws.{Opened, rows_held}
use Rattle.reading.proofs.JudgedTextLaws.{with_read}
use Rattle.reading.proofs.CorrectedLaws.{sheet_passes}
use Rattle.trips.proofs.FirstLine.{first_line}
use Rattle.std.specs.Prelude.{Ok, Err}

module _ (kind : RowKind) (zones : ℕ) where
  -- ---- the line written of row i
  abbrev Fits : ℕ → RowLine → Type 0
  Fits i c = (i < 10 ^ 10) × RowHeld zones c

  module _ (i : ℕ) (c : RowLine) (fit : Fits i c) where
    abbrev line : List ℕ
    line = text_by kind i c

    own-holds : line_by kind zones line i ≡ Ok c
    own-holds = row_written zones c fit.1 kind i fit.0

    own-index : number_at line (index_place kind) (sep_by kind) ≡ Ok (i, index_place kind + length (decimal i) + 1)
    own-index = row_index kind zones line i c own-holds

    own_row : (j : ℕ) → of_row kind line j ≡ eqb i j
    unfolding of_row
    own_row j = rw own-index

    own-due : (rows : ℕ) → i < rows → due_index kind rows i line ≡ i
    unfolding given_index
    own-due rows h = sym (due_own kind rows i line i (rw own-index) (omega arith) h)

    own-some : 0 < length line
    own-some = omega (arith, (number_read line (index_place kind) (sep_by kind) i _ (sym own-index)).within)

    own-pieces : (rest : List ℕ) → pieces (line ++ rest) ≡ line ∷ pieces rest
    own-pieces rest =
        pieces_at (line ++ rest) 0 (omega (arith, own-some, length-append line rest))
        ∙ ap (λ (l : List ℕ). l ∷ pieces (drop (0 + length l) (line ++ rest))) (row_one kind i c rest)
        ∙ ap (λ (l : List ℕ). line ∷ pieces l) (ap (λ (n : ℕ). drop n (line ++ rest)) (zero-add (length line)) ∙ drop-append_seam line rest)

  -- ---- the lines of rows are a good sheet
  abbrev written : ℕ → List RowLine → List (List ℕ)
  written i [] = []
  written i (c ∷ xs) = text_by kind i c ∷ written (i + 1) xs

  written-pieces : (i : ℕ) (xs : List RowLine) → AllFit Fits i xs → pieces (section_text (text_by kind) i xs) ≡ written i xs
  written-pieces i [] f = refl
  written-pieces i (c ∷ xs) f = own-pieces i c f.0 (section_text (text_by kind) (i + 1) xs) ∙ ap (λ (ls : List (List ℕ)). text_by kind i c ∷ ls) (written-pieces (i + 1) xs f.1)

  written-good : (rows i number : ℕ) (xs : List RowLine) → AllFit Fits i xs → i + length xs ≤ rows → judge_from kind zones rows i number (written i xs) ≡ Ok tt
  written-good rows i number [] f h = refl
  written-good rows i number (c ∷ xs) f h = rw (own-due i c f.0 rows (omega arith), own-holds i c f.0) (written-good rows (i + 1) (number + 1) xs f.1 (omega arith))

  -- ---- each of these lines is handed on for its own row
  module _ (first : ℕ) (text : List ℕ) (sheet : List (List ℕ)) where
    abbrev Same : ℕ → List RowLine → Type 0
    Same i xs = (d : Piece) (j : ℕ) → i ≤ j → handed_on kind sheet d j ≡ handed_on kind (written i xs) d j

    abbrev judge : List ℕ → ℕ → Line RowLine
    judge = picked_row zones (handed_on kind sheet)

    own_same : (k p i : ℕ) (xs : List RowLine) (e : ℕ) → Same i xs → AllFit Fits i xs → lines_at (row_line zones) first k text p i ≡ read xs e → lines_at judge first k text p i ≡ read xs e
    unfolding lines_at
    own_same zero p i xs e same fits q = q
    own_same (suc k) p i xs e same fits q =
        let f = first_line text (row_line zones) first k p i xs e q in
        let c = f.it in
        let ys = f.others in
        let own : Same i (c ∷ ys) = subst (Same i) (sym f.is) same in
        let fit : AllFit Fits i (c ∷ ys) = subst (AllFit Fits i) (sym f.is) fits in
        let day = piece row_kind.Table (line_at text p) in
        let rest = written (i + 1) ys in
        let here : judge (line_at text p) i ≡ Ok c =
        ap (λ (x : Piece). row_in zones x i)
        (own day i (omega arith) ∙ ap (λ (v : Bool). cond v (piece kind (text_by kind i c)) (handed_on kind rest day i)) (own_row i c fit.0 i ∙ eq-eqb i i refl))
        ∙ own-holds i c fit.0 in
        let later : Same (i + 1) ys = λ d j l.
        own d j (omega arith) ∙ ap (λ (v : Bool). cond v (piece kind (text_by kind i c)) (handed_on kind rest d j)) (own_row i c fit.0 j ∙ ne_eqb i j (λ r. not-suc-le-zero {n = 0} (omega (arith, r)))) in
        subst (λ (l : List RowLine). lines_at judge first (suc k) text p i ≡ read l e) f.is
        (ap (λ (l : Line RowLine). on_line l (first + i) (lines_at judge first k text (after text p) (i + 1))) here
        ∙ ap (more c) (own_same k (after text p) (i + 1) ys e later fit.1 f.rest))

-- ---- the sheet's kind is that of its lines
own_kind : (kind : RowKind) (c : RowLine) (rest : List ℕ) → sheet_kind (text_by kind 0 c ++ rest) ≡ kind
unfolding sheet_kind columns_text head_text index_text decimal text_of
own_kind row_kind.Table c rest = refl
own_kind row_kind.Sheet c rest = refl

kind_of : (kind : RowKind) (xs : List RowLine) → 0 < length xs → sheet_kind (section_text (text_by kind) 0 xs) ≡ kind
kind_of kind [] h = absurd (not-suc-le-zero h)
kind_of kind (c ∷ xs) h = own_kind kind c (section_text (text_by kind) 1 xs)

-- ---- the day with its own rows
pub own_lines : (kind : RowKind) (text : List ℕ) (t : Table) → read_text text ≡ Ok t → (o : Opened as_given text t) → let sheet = section_text (text_by kind) 0 o.lines in
    length sheet ≤ bytes_most → read_corrected text sheet ≡ Ok t
own_lines kind text t e o short =
    let h = t.header in
    let xs = o.lines in
    let sheet = section_text (text_by kind) 0 xs in
    let held = rows_held as_given text t o in
    let many = header_in_lem h o.header_fits_lem in
    let fits : AllFit (Fits kind h.zones) 0 xs = fits_all (Fits kind h.zones) empty_row xs 0 (λ k l. (omega (arith, held.0, many.rows_most_lem), fits_at (RowHeldAt h.zones) empty_row xs 0 held.1 k l)) in
    let is = kind_of kind xs (omega (arith, held.0, many.rows_least_lem)) in
    let lines = written-pieces kind h.zones 0 xs fits in
    let good : judge_corrections h.zones h.rows sheet ≡ Ok tt =
    ap₂ (λ (k : RowKind) (ls : List (List ℕ)). judge_from k h.zones h.rows 0 1 ls) is lines ∙ written-good kind h.zones h.rows 0 1 xs fits (omega (arith, held.0)) in
    let handed : lines_at (picked_row h.zones (handed_by sheet)) (row_line_no h) h.rows text o.q 0 ≡ read xs o.e =
    ap₂ (λ (k : RowKind) (ls : List (List ℕ)). lines_at (picked_row h.zones (handed_on k ls)) (row_line_no h) h.rows text o.q 0) is lines
    ∙ own_same kind h.zones (row_line_no h) text (written kind h.zones 0 xs) h.rows o.q 0 xs o.e (λ d j l. refl) fits o.rows_are in
    let after-rows : List RowLine → ℕ → Judged Table = λ rows e.
    cond (ltb e (length text)) (Err (wrong_form (past_line_no h))) (Ok (lent h t.nets t.allocated t.borders (values_of rows) (factors_of rows))) in
    sheet_passes text sheet short t (sym e) (sym good)
    ∙ o.left (handed_by sheet)
    ∙ with_read _ after-rows xs o.e handed
    ∙ rw (le-ltb o.e (length text) o.whole) (ap₂ (λ (v : List (List ℤ)) (f : List ℤ). Ok (lent h t.nets t.allocated t.borders v f)) o.values_are o.factors_are)
