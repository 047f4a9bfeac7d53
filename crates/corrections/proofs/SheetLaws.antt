-- The laws of `specs/Corrections.antt`: a line of a good sheet, and a good sheet line by line. No contract cites this file.
-- In order: the kind of a sheet; the index that a line holds; the index that is due; a line of a good sheet; the sheet split; which line is handed on.
use Rattle.std.specs.Prelude.{Ok}
use mathlib.Core.Path.{◌≡◌, refl, sym, ap, subst, ◌∙◌}
use mathlib.Core.Bool.{Bool, true, false, cond, ◌&&◌}
use mathlib.Core.List.{List, [], ◌∷◌, append_assoc}
use Prim.Native.Nat.{ℕ, ◌+◌, ◌≤◌, ◌<◌, ◌^◌}
use native.Mathlib.Nat.{not-suc-le-zero}
use native.Mathlib.Omega.{arith}
use borrow.Author.Tests.{eqb-true, ne_eqb, leb-true, ltb-true, le-leb, lt-leb, lt-ltb, le-ltb}
use lib.Dec.{eqb, leb, ltb}
use lib.IntN.{ℤ}
use lib.ListN.{length, get_or, take, drop}
use Rattle.numbers.proofs.TestLaws.{and_both}
use Rattle.refusals.specs.Refusals.{wrong_correction}
use Rattle.refusals.proofs.RefusalLaws.{not_passed}
use Rattle.types.specs.LineColumns.{row_items}
use Rattle.text.specs.Fields.{Parsed, tab, feed, number_at, with_number}
use Rattle.text.specs.Line.{Line, byte_of}
use Rattle.text.specs.Written.{decimal}
use Rattle.text.proofs.NumberTrip.{number_read, number_written}
use Rattle.columns.specs.ColumnText.{fields_ended, index_text, head_text, columns_text}
use Rattle.columns.proofs.ColumnTrip.{LineRead, judged_read}
use Rattle.tablerules.specs.Table.{row_good}
use Rattle.lines.specs.RowKinds.{semicolon, sep_by, head_by, columns_by, bad_by, out_by}
use Rattle.lines.specs.Lines.{RowLine, row}
use Rattle.lines.specs.SaidRow.{line_by}
use Rattle.lines.specs.declared.row.RowKind.{RowKind}
use Rattle.lines.specs.declared.row.RowKind.TheVariants.{Table, Sheet}
use Rattle.lines.proofs.RowJudge.{by_values, RowHolds}
use Rattle.lines.proofs.RowTrip.{sep_ends}
use Rattle.corrections.specs.Corrections.{sheet_kind, index_place, Piece, piece, row_in, of_row, handed_on, ended_index, given_index, due_index, on_correction, judge_from}
use Rattle.std.specs.Prelude.{Ok, Err}

-- ---- the kind of a sheet by its first byte
module _ (sheet : List ℕ) (b : ℕ) (is : b ≡ get_or sheet 0 0) where
  pub kind_below : b < 48 → Table ≡ sheet_kind sheet
  unfolding sheet_kind
  kind_below h = rw (← is, lt-leb 48 b h)

  pub kind_digit : 48 ≤ b → b ≤ 57 → Sheet ≡ sheet_kind sheet
  unfolding sheet_kind
  kind_digit l h = rw (← is, le-leb 48 b l, lt-ltb b 58 (omega arith))

  pub kind_above : 57 < b → Table ≡ sheet_kind sheet
  unfolding sheet_kind
  kind_above h = rw (← is, le-leb 48 b (omega arith), le-ltb b 58 (omega arith))

-- ---- a good line gives itself its index
pub row_index : (kind : RowKind) (zones : ℕ) (line : List ℕ) (i : ℕ) (c : RowLine) → line_by kind zones line i ≡ Ok c → number_at line (index_place kind) (sep_by kind) ≡ Ok (i, index_place kind + length (decimal i) + 1)
unfolding columns_text head_text index_text
row_index kind zones line i c e = go kind (judged_read (λ zs. row_good (take row_items zs) (drop row_items zs)) (λ zs. row (take row_items zs) (drop row_items zs)) (bad_by kind zones line i) (λ zs. out_by kind line (take row_items zs) (drop row_items zs)) (sep_by kind) (sep_ends kind) (head_by kind i) (columns_by kind zones) line c (sym (by_values kind zones line i) ∙ e)).read
  where
    go : (k : RowKind) {zs : List ℤ} → LineRead (sep_by k) (head_by k i) (columns_by k zones) line zs → number_at line (index_place k) (sep_by k) ≡ Ok (i, index_place k + length (decimal i) + 1)
    go Table {zs} r = let rest = fields_ended tab feed (columns_by Table zones) zs in number_written line 2 tab i rest (ap (drop 2) r.here ∙ append_assoc (decimal i) (tab ∷ []) rest) r.small refl
    go Sheet {zs} r = let rest = fields_ended semicolon feed (columns_by Sheet zones) zs in number_written line 0 semicolon i rest (r.here ∙ append_assoc (decimal i) (semicolon ∷ []) rest) r.small refl

-- ---- an index has ten digits at most
small_in_lem : (line : List ℕ) (at stop other : ℕ) → other < 10 ^ 10 → with_number (number_at line at stop) other (λ index next. index) < 10 ^ 10
small_in_lem line at stop other h = go (number_at line at stop) refl
  where
    go : (n : Parsed ℕ) → number_at line at stop ≡ n → with_number n other (λ index next. index) < 10 ^ 10
    go (Ok (index, next)) q = (number_read line at stop index next (sym q)).small
    go (Err place) q = h

pub given_small : (kind : RowKind) (line : List ℕ) → given_index kind line < 10 ^ 10
unfolding given_index ended_index
given_small kind line = small_in_lem line (index_place kind) (sep_by kind) _ (small_in_lem line (index_place kind) feed 0 (omega arith))

-- ---- the index that is due
module _ (kind : RowKind) (rows least : ℕ) (line : List ℕ) where
  module _ (given : ℕ) (is : given ≡ given_index kind line) where
    pub due_own : least ≤ given → given < rows → given ≡ due_index kind rows least line
    unfolding due_index
    due_own l h = rw (← is, le-leb least given l, lt-ltb given rows h)

    pub due_low : given < least → given + 1 ≡ due_index kind rows least line
    unfolding due_index
    due_low h = rw (← is, lt-leb least given h)

    pub due_high : least ≤ given → rows ≤ given → given + 1 ≡ due_index kind rows least line
    unfolding due_index
    due_high l h = rw (← is, le-leb least given l, le-ltb given rows h)

  pub due_small : due_index kind rows least line ≤ 10 ^ 10
  unfolding due_index
  due_small = go (leb least (given_index kind line) && ltb (given_index kind line) rows)
    where
      go : (v : Bool) → cond v (given_index kind line) (given_index kind line + 1) ≤ 10 ^ 10
      go true = omega (arith, given_small kind line)
      go false = omega (arith, given_small kind line)

  record Due : Type 0 where
    pub low : least ≤ given_index kind line
    pub high : given_index kind line < rows

  -- where the index that is due is the line's own, it is in least..rows
  due-is : given_index kind line ≡ due_index kind rows least line → Due
  unfolding due_index
  due-is e = go (leb least (given_index kind line) && ltb (given_index kind line) rows) refl e
    where
      go : (v : Bool) → (leb least (given_index kind line) && ltb (given_index kind line) rows) ≡ v → given_index kind line ≡ cond v (given_index kind line) (given_index kind line + 1) → Due
      go true q e = let b = and_both (leb least (given_index kind line)) _ q in record { low = leb-true least (given_index kind line) b.0; high = ltb-true (given_index kind line) rows b.1 }
      go false q e = absurd (not-suc-le-zero {n = 0} (omega arith))

-- ---- a line of a good sheet
pub record Correction (kind : RowKind) (zones rows least : ℕ) (line : List ℕ) : Type 0 where
  pub index : ℕ
  pub next : ℕ
  pub is : number_at line (index_place kind) (sep_by kind) ≡ Ok (index, next)
  pub held : RowHolds (line_by kind zones line index)
  pub low : least ≤ index
  pub high : index < rows

pub correction : (kind : RowKind) (zones rows least : ℕ) (line : List ℕ) (c : RowLine) → line_by kind zones line (due_index kind rows least line) ≡ Ok c → Correction kind zones rows least line
unfolding given_index
correction kind zones rows least line c e =
    let i = due_index kind rows least line in
    let q = row_index kind zones line i c e in
    let own : given_index kind line ≡ i = rw q in
    let d = due-is kind rows least line own in
    record { index = i; next = index_place kind + length (decimal i) + 1; is = q; held = record { it = c; is = e }; low = omega (arith, d.low, own); high = omega (arith, d.high, own) }

module _ {kind : RowKind} {zones rows least : ℕ} {line : List ℕ} (u : Correction kind zones rows least line) where
  pub row_is : (i : ℕ) → of_row kind line i ≡ eqb u.index i
  unfolding of_row
  row_is i = rw u.is

  pub given_is : given_index kind line ≡ u.index
  unfolding given_index
  given_is = rw u.is

  -- the index that is due is the line's own from any row on that is not after it
  pub due_later : (i : ℕ) → i ≤ u.index → due_index kind rows i line ≡ u.index
  due_later i h = sym (due_own kind rows i line u.index (sym given_is) h u.high)

-- ---- a good sheet: its first line, and the others
module _ (kind : RowKind) (zones rows : ℕ) where
  pub record Split (least number : ℕ) (line : List ℕ) (rest : List (List ℕ)) : Type 0 where
    pub first : Correction kind zones rows least line
    pub others : judge_from kind zones rows (first.index + 1) (number + 1) rest ≡ Ok tt

  pub split : (least number : ℕ) (line : List ℕ) (rest : List (List ℕ)) → judge_from kind zones rows least number (line ∷ rest) ≡ Ok tt → Split least number line rest
  split least number line rest e = go (line_by kind zones line (due_index kind rows least line)) refl e
    where
      go : (l : Line RowLine) → line_by kind zones line (due_index kind rows least line) ≡ l → on_correction l number (judge_from kind zones rows (due_index kind rows least line + 1) (number + 1) rest) ≡ Ok tt → Split least number line rest
      go (Ok c) q e =
          let u = correction kind zones rows least line c q in
          record { first = u; others = sym (ap (λ (n : ℕ). judge_from kind zones rows (n + 1) (number + 1) rest) (due_later u least u.low)) ∙ e }
      go (Err bad) q e = absurd (not_passed (wrong_correction number (byte_of bad)) tt e)

  -- a first line and the others make a good sheet, from any row on that is not after the first line's
  pub joined_good : (least number : ℕ) (line : List ℕ) (rest : List (List ℕ)) (w : Split least number line rest) (i : ℕ) → i ≤ w.first.index → judge_from kind zones rows i number (line ∷ rest) ≡ Ok tt
  joined_good least number line rest w i h = rw (due_later w.first i h, w.first.held.is) w.others

  -- ---- which line is handed on
  -- a row before all of a sheet's keeps the day's line
  pub before : (least number : ℕ) (sheet : List (List ℕ)) → judge_from kind zones rows least number sheet ≡ Ok tt → (d : Piece) (k : ℕ) → k < least → handed_on kind sheet d k ≡ d
  before least number [] e d k h = refl
  before least number (line ∷ rest) e d k h =
      let w = split least number line rest e in
      let other : of_row kind line k ≡ false = row_is w.first k ∙ ne_eqb w.first.index k (λ q. not-suc-le-zero {n = 0} (omega (arith, q, w.first.low))) in
      ap (λ (v : Bool). cond v (piece kind line) (handed_on kind rest d k)) other ∙ before (w.first.index + 1) (number + 1) rest w.others d k (omega (arith, w.first.low))

  -- the sheet's next line is all that row i has to look at
  pub next_line : (i number : ℕ) (line : List ℕ) (rest : List (List ℕ)) → judge_from kind zones rows i number (line ∷ rest) ≡ Ok tt → (d : Piece) → cond (of_row kind line i) (piece kind line) d ≡ handed_on kind (line ∷ rest) d i
  next_line i number line rest e d =
      let w = split i number line rest e in
      ap (cond (of_row kind line i) (piece kind line)) (sym (before (w.first.index + 1) (number + 1) rest w.others d i (omega (arith, w.first.low))))

  -- a good day's line with a good sheet: what is handed on is good
  pub handed_good : (least number : ℕ) (sheet : List (List ℕ)) → judge_from kind zones rows least number sheet ≡ Ok tt
      → (d : Piece) (i : ℕ) → RowHolds (row_in zones d i) → RowHolds (row_in zones (handed_on kind sheet d i) i)
  handed_good least number [] e d i h = h
  handed_good least number (line ∷ rest) e d i h =
      let w = split least number line rest e in
      go w.first (eqb w.first.index i) refl (handed_good (w.first.index + 1) (number + 1) rest w.others d i h)
    where
      go : (u : Correction kind zones rows least line) (v : Bool) → eqb u.index i ≡ v → RowHolds (row_in zones (handed_on kind rest d i) i) → RowHolds (row_in zones (cond (of_row kind line i) (piece kind line) (handed_on kind rest d i)) i)
      go u true q ih =
          subst (λ (v : Bool). RowHolds (row_in zones (cond v (piece kind line) (handed_on kind rest d i)) i)) (sym (row_is u i ∙ q))
          (subst (λ (k : ℕ). RowHolds (line_by kind zones line k)) (eqb-true u.index i q) u.held)
      go u false q ih = subst (λ (v : Bool). RowHolds (row_in zones (cond v (piece kind line) (handed_on kind rest d i)) i)) (sym (row_is u i ∙ q)) ih
