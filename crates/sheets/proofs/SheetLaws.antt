-- That what `sheet_row` prints, row by row, is a table's corner sheets (specs/Sheets.antt). No contract cites this file.
-- In order: how long a row's sheet is; what `corner_text_good` leaves, with room for the longest; all rows of a table;
-- and the theorems on a text: its table's rows, printed one by one, are `one_sheet` and `every_sheet` of it, and so is its refusal.
use Rattle.std.specs.Prelude.{Err, Ok}
use mathlib.Core.Path.{◌≡◌, sym, ap, subst, ◌∙◌}
use mathlib.Core.Bool.{Bool, cond}
use mathlib.Core.List.{List, append-nil}
use mathlib.Core.Logic.{⊎_elim}
use Prim.Native.Nat.{ℕ, ◌^◌, ◌≤◌, ◌<◌}
use native.Mathlib.Nat.{mul-le-mul, le_refl}
use native.Mathlib.Omega.{arith}
use borrow.Author.Tests.{le-leb, lt-leb, lt-ltb}
use lib.IntN.{ℤ}
use lib.ListN.{length}
use lib.Pow.{pow_mono}
use Rattle.numbers.specs.Ints.{Within}
use Rattle.numbers.proofs.BelowLaws.{le_or_lt}
use Rattle.numbers.proofs.IntLaws.{within_le}
use Rattle.refusals.specs.declared.Refusal.{Refusal}
use Rattle.refusals.specs.Refusals.{Judged, then, no_corners}
use Rattle.refusals.proofs.RefusalLaws.{passed_is, then_passed, then_next, then_refused, either_passed, either_refused, unless_ok, unless_refused}
use Rattle.types.specs.declared.Header.{Header}
use Rattle.types.specs.Ranges.{at_ℤ}
use Rattle.types.proofs.RangeLaws.{header_in_lem}
use Rattle.text.specs.Left.{text_left, text_said}
use Rattle.text.specs.Written.{lines_text}
use Rattle.text.proofs.WrittenLaws.{decimal_long, decimal_ℤ_long}
use Rattle.text.proofs.PutLaws.{lines_most_lem, lines_cong}
use Rattle.tablerules.specs.Table.{Table, lent, front, factors_at}
use Rattle.tablerules.specs.Good.{Good}
use Rattle.reading.specs.Reading.{read_corrected, read_into}
use Rattle.reading.proofs.IntoLaws.{into_refused, into_read, into_good}
use Rattle.marginrules.specs.Magnitudes.{BordersInRange}
use Rattle.marginrules.proofs.JudgedLaws.{stretch_long, stretch_ranges, good_factors, good_borders}
use Rattle.cornerrules.specs.Corners.{sheet_borders_most, part_of, flows_of, judge_corner_sheet}
use Rattle.cornerrules.specs.Listed.{part_most, corner_flow_most}
use Rattle.cornerrules.proofs.CornerLaws.{flow_within}
use Rattle.cornerrules.proofs.ListedLaws.{part_of_within}
use Rattle.cornerrules.proofs.SheetLaws.{Sheet, flows_long, passed_sheet}
use Rattle.cornertext.specs.CornerText.{sheet_most, corner_line_at, corners_text, sheet_text, sheet_text_of}
use Rattle.cornertext.proofs.CornerTextLaws.{corner_line_long}
use Rattle.result.specs.Refusal.{refusal_text}
use Rattle.output.specs.Buffer.{Printed, told_text, Told}
use Rattle.output.proofs.BufferLaws.{told_printed}
use Rattle.sheets.specs.Sheets.{one_sheet, every_sheet, sheet_at, sheet_rows}
use Rattle.sheets.specs.Room.{sheet_line_most, sheet_room}

-- ---- how long a row's sheet is
module _ {t : Table} {row : ℕ} (s : Sheet t row) where
  abbrev flows : List ℤ
  flows = flows_of (factors_at t row) t.borders

  flows-most : length flows ≤ sheet_most
  flows-most = omega (arith, flows_long s, pow_mono s.few)

  flow-most : (k : ℕ) → k < length flows → Within corner_flow_most (at_ℤ flows k)
  flow-most k h =
      let n = length t.borders in
      let few : n ≤ sheet_borders_most = omega (arith, s.good.exact.borders_long, s.few) in
      let factors = good_factors s.good in
      let bound = subst (λ (zones : ℕ). BordersInRange zones t.borders) (sym (stretch_long factors row s.has)) (good_borders s.good) in
      let part = part_of_within (factors_at t row) t.borders few (stretch_ranges factors row s.has) bound in
      let below : k < 2 ^ n = omega (arith, flows_long s, ap (λ (m : ℕ). 2 ^ m) s.good.exact.borders_long) in
      within_le (flow_within (part_of (factors_at t row) t.borders) n part k below) (mul-le-mul few (le_refl part_most))

  -- a letter, three tabs, an LF; a row of 3 digits, a corner of 4, a flow of 14 with a minus
  line_most_lem : (k : ℕ) → k < length flows → length (corner_line_at row flows k) ≤ sheet_line_most
  line_most_lem k h =
      omega (
        arith,
        corner_line_long row k (at_ℤ flows k),
        decimal_long 2 row (omega (arith, s.has, (header_in_lem t.header s.good.exact.header).rows_most_lem)),
        decimal_long 3 k (omega (arith, flows-most)),
        decimal_ℤ_long 13 (at_ℤ flows k) (omega (arith, (flow-most k h).abs)),
      )

  pub sheet_short : length (sheet_text t row) ≤ sheet_room
  unfolding corners_text
  sheet_short = omega (arith, lines_most_lem (corner_line_at row flows) (length flows) line_most_lem, flows-most)

-- ---- a row's sheet, or its refusal, with room for the longest
module _ {t : Table} (good : Good t) (row : ℕ) where
  sheet_fits : (text : List ℕ) → sheet_text_of (judge_corner_sheet t row) row ≡ Ok text → length text ≤ sheet_room
  sheet_fits text e =
      let d = then_passed (judge_corner_sheet t row) _ text e in
      subst (λ (s : List ℕ). length s ≤ sheet_room) (passed_is _ _ d.second) (sheet_short (passed_sheet t row good d.it d.first))

  pub sheet_printed : (out : List ℕ) {out' out'' : List ℕ} (r : Judged ℕ) {n : ℕ} → sheet_room ≤ length out → text_said r out' ≡ text_left (sheet_text_of (judge_corner_sheet t row) row) out → Told r out' n out'' → Printed n (sheet_at t row) out''
  unfolding sheet_at
  sheet_printed out r room said told = told_printed (sheet_text_of (judge_corner_sheet t row) row) out r (λ text e. omega (arith, sheet_fits text e, room)) said told

-- ---- all rows of a table: each has its sheet, or none has and the first refusal stands for all
module _ (t : Table) where
  has-sheet : t.header.borders ≤ sheet_borders_most → (row : ℕ) → row < t.header.rows → judge_corner_sheet t row ≡ Ok t
  has-sheet few row h = unless_ok _ _ (le-leb _ _ few) ∙ unless_ok _ _ (lt-ltb _ _ h)

  no-sheet : sheet_borders_most < t.header.borders → (row : ℕ) → judge_corner_sheet t row ≡ Err (no_corners t.header.borders)
  no-sheet many row = unless_refused _ _ (lt-leb _ _ many)

  rows-printed : 0 < t.header.rows
      → lines_text (sheet_rows t.header) 0 (sheet_at t) ≡ told_text (then (judge_corner_sheet t 0) (λ t. Ok (lines_text t.header.rows 0 (sheet_text t))))
  unfolding sheet_at lines_text
  rows-printed some =
      ⊎_elim
      (λ few.
      ap (λ (v : Bool). lines_text (cond v t.header.rows 1) 0 (sheet_at t)) (le-leb t.header.borders sheet_borders_most few)
      ∙ lines_cong t.header.rows 0 (sheet_at t) (sheet_text t) (λ i h. either_passed _ _ (then_next _ (has-sheet few i (omega arith))))
      ∙ sym (either_passed _ _ (then_next _ (has-sheet few 0 some))))
      (λ many.
      ap (λ (v : Bool). lines_text (cond v t.header.rows 1) 0 (sheet_at t)) (lt-leb t.header.borders sheet_borders_most many)
      ∙ append-nil (sheet_at t 0) ∙ either_refused _ _ (then_refused _ (no-sheet many 0)) ∙ sym (either_refused _ _ (then_refused _ (no-sheet many 0))))
      (le_or_lt t.header.borders sheet_borders_most)

-- ---- a text
module _ (text sheet : List ℕ) (r : Judged Header) (z a : List ℤ) (b c : List (List ℤ)) (f : List ℤ) (said : read_into r z a b c f ≡ read_corrected text sheet) where
  -- the text's table was read
  module _ {h : Header} (is : r ≡ Ok h) where
    abbrev t : Table
    t = front (lent h z a b c f)

    is_read : read_corrected text sheet ≡ Ok t
    is_read = into_read text sheet r z a b c f said is

    pub one_sheet_lem : (row : ℕ) → sheet_at t row ≡ one_sheet text sheet row
    unfolding sheet_at one_sheet
    one_sheet_lem row = ap (λ (j : Judged (List ℕ)). told_text j) (sym (then_next _ is_read))

    pub every_sheet_lem : lines_text (sheet_rows h) 0 (sheet_at t) ≡ every_sheet text sheet
    unfolding every_sheet
    every_sheet_lem =
        rows-printed t (omega (arith, (header_in_lem h (into_good text sheet r z a b c f said is).exact.header).rows_least_lem))
        ∙ ap (λ (j : Judged (List ℕ)). told_text j) (sym (then_next _ is_read))

  -- the text was refused
  module _ {w : Refusal} (is : r ≡ Err w) where
    none_read : (next : Table → Judged (List ℕ)) → then (read_corrected text sheet) next ≡ Err w
    none_read next = then_refused next (into_refused text sheet r z a b c f said is)

    pub one_refused : (row : ℕ) → refusal_text w ≡ one_sheet text sheet row
    unfolding one_sheet
    one_refused row = sym (either_refused _ _ (none_read _))

    pub every_refused : refusal_text w ≡ every_sheet text sheet
    unfolding every_sheet
    every_refused = sym (either_refused _ _ (none_read _))
