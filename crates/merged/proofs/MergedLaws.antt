-- The laws of `specs/Merged.antt`: the merged text line by line, and along sections of lines that were read. No contract cites this file.
-- In order: a row's line as a C line; a line; a section of lines other than C lines; a section of C lines.
use mathlib.Core.Path.{◌≡◌, refl, sym, ap, ap₂, subst, ◌∙◌}
use mathlib.Core.Bool.{true, false}
use mathlib.Core.List.{List, [], ◌∷◌, ◌++◌, append_assoc}
use Prim.Native.Nat.{ℕ, zero, suc, ◌+◌, ◌≤◌, ◌<◌}
use native.Mathlib.Omega.{arith}
use lib.ListN.{length, drop, length-drop, drop_of_length-le}
use Rattle.text.specs.Line.{line_at, after, Line}
use Rattle.text.proofs.LineLaws.{line_le_length}
use Rattle.sections.specs.Section.{read, lines_at}
use Rattle.sections.proofs.SectionLaws.{read_is, section_text}
use Rattle.columns.specs.ColumnText.{columns_text, head_text}
use Rattle.lines.specs.Lines.{RowLine, row_line}
use Rattle.lines.specs.SaidRow.{line_by}
use Rattle.lines.specs.declared.row.RowKind.{RowKind}
use Rattle.lines.specs.declared.row.RowKind.TheVariants as row_kind
use Rattle.lines.proofs.RowTrip.{row_read_lem}
use Rattle.corrections.specs.Corrections.{pieces, Piece, piece}
use Rattle.corrections.proofs.PieceLaws.{pieces_at}
use Rattle.rowlines.specs.Rows.{picked_row}
use Rattle.trips.proofs.FirstLine.{first_line}
use Rattle.trips.proofs.SectionTrip.{row_line_of}
use Rattle.merged.specs.Merged.{is_row, as_row, merged_from}
use Rattle.std.specs.Prelude.{Ok}

-- a line that is not empty and no C line, and one that is
abbrev pub Other : (line : List ℕ) → Type 0
Other line = (0 < length line) × (is_row line ≡ false)

abbrev Own : (line : List ℕ) → Type 0
Own line = (0 < length line) × (is_row line ≡ true)

own_line : (i : ℕ) (c : RowLine) → Own (row_line_of i c)
unfolding columns_text head_text
own_line i c = (omega arith, refl)

-- ---- a row's line, whichever its kind, is the C line of what it holds
as_row_lem : (kind : RowKind) (zones : ℕ) (line : List ℕ) (i : ℕ) (c : RowLine) → line_by kind zones line i ≡ Ok c → as_row kind zones line i ≡ row_line_of i c
as_row_lem row_kind.Table zones line i c e = (row_read_lem row_kind.Table zones line i c e).0
as_row_lem row_kind.Sheet zones line i c e = rw e

module _ (zones : ℕ) (pick : Piece → ℕ → Piece) (text : List ℕ) where
  -- the merged text from place p on, where the next C line is row i's
  abbrev pub merged_at : (p i : ℕ) → List ℕ
  merged_at p i = merged_from zones pick i (pieces (drop p text))

  -- ---- a line
  module _ (p i : ℕ) where
    line-here : 0 < length (line_at text p) → merged_at p i ≡ merged_from zones pick i (line_at text p ∷ pieces (drop (after text p) text))
    line-here some = ap (merged_from zones pick i) (pieces_at text p (omega (arith, line_le_length (drop p text), length-drop p text)))

    pub other_line : (line : List ℕ) → line_at text p ≡ line → Other line → merged_at p i ≡ line ++ merged_at (after text p) i
    other_line line is o = line-here (rw is o.0) ∙ rw (is, o.1)

    pub handed_line : (line : List ℕ) → line_at text p ≡ line → Own line → let handed = pick (piece row_kind.Table line) i in merged_at p i ≡ as_row handed.kind zones handed.line i ++ merged_at (after text p) (i + 1)
    handed_line line is o = line-here (rw is o.0) ∙ rw (is, o.1)

  -- ---- lines other than C lines are not changed
  module _ {A : Type 0} (judge : List ℕ → ℕ → Line A) (first : ℕ) (text_of : ℕ → A → List ℕ) (Line-read : (line : List ℕ) (i : ℕ) (a : A) → judge line i ≡ Ok a → line ≡ text_of i a)
      (other : (i : ℕ) (a : A) → Other (text_of i a)) (row : ℕ) where
    pub others_stay : (n p i : ℕ) (xs : List A) (e : ℕ) → lines_at judge first n text p i ≡ read xs e → merged_at p row ≡ section_text text_of i xs ++ merged_at e row
    unfolding lines_at
    others_stay zero p i xs e q = let w = read_is [] xs p e q in rw (← w.1, ← w.0) refl
    others_stay (suc n) p i xs e q =
        let f = first_line text judge first n p i xs e q in
        let line = text_of i f.it in
        subst (λ (l : List A). merged_at p row ≡ section_text text_of i l ++ merged_at e row) f.is
        (other_line p row line (Line-read (line_at text p) i f.it f.held) (other i f.it)
        ∙ ap (λ (l : List ℕ). line ++ l) (others_stay n (after text p) (i + 1) f.others e f.rest)
        ∙ sym (append_assoc line (section_text text_of (i + 1) f.others) (merged_at e row)))

  -- ---- C lines to the end of the text are handed on, each for its row: the day's lines are good, and so are the lines picked for the rows
  module _ (first : ℕ) where
    pub rows_handed : (n p i : ℕ) (days : List RowLine) (d : ℕ) (xs : List RowLine) (e : ℕ) → lines_at (row_line zones) first n text p i ≡ read days d
        → lines_at (picked_row zones pick) first n text p i ≡ read xs e → length text ≤ e → merged_at p i ≡ section_text row_line_of i xs
    unfolding lines_at
    rows_handed zero p i days d xs e r q whole =
        let w = read_is [] xs p e q in
        let past : length text ≤ p = omega (arith, w.1) in
        ap (λ (l : List ℕ). merged_from zones pick i (pieces l)) (drop_of_length-le text past) ∙ ap (section_text row_line_of i) w.0
    rows_handed (suc n) p i days d xs e r q whole =
        let day = first_line text (row_line zones) first n p i days d r in
        let f = first_line text (picked_row zones pick) first n p i xs e q in
        let line : line_at text p ≡ row_line_of i day.it = (row_read_lem row_kind.Table zones (line_at text p) i day.it day.held).0 in
        let own = pick (piece row_kind.Table (line_at text p)) i in
        let handed = ap (λ (l : List ℕ). let h = pick (piece row_kind.Table l) i in as_row h.kind zones h.line i) (sym line) ∙ as_row_lem own.kind zones own.line i f.it f.held in
        subst (λ (l : List RowLine). merged_at p i ≡ section_text row_line_of i l) f.is
        (handed_line p i (row_line_of i day.it) line (own_line i day.it)
        ∙ ap₂ (λ (x y : List ℕ). x ++ y) handed (rows_handed n (after text p) (i + 1) day.others d f.others e day.rest f.rest whole))
