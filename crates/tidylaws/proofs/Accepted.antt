-- What the calculator accepts, `tidy` does not change: a table, a correction sheet of either kind, the planners' sheet of a header.
-- An accepted text is the text that the calculator writes of what it read (crate trips), and what it writes stays as it is, line by line.
use mathlib.Core.Path.{◌≡◌, refl, sym, ap, ◌∙◌}
use mathlib.Core.Bool.{Bool, true, false, cond}
use mathlib.Core.List.{List, [], ◌∷◌, ◌++◌}
use Prim.Native.Char.{code}
use Prim.Native.Nat.{ℕ, zero, suc, ◌+◌, ◌≤◌}
use native.Mathlib.Nat.{not-suc-le-zero}
use native.Mathlib.Omega.{arith}
use borrow.Author.Tests.{ne_eqb, le-ltb}
use lib.Dec.{eqb}
use lib.IntN.{ℤ, pos}
use lib.ListN.{length, get_or}
use lib.Signed.{lt_z}
use Rattle.refusals.specs.Refusals.{wrong_correction}
use Rattle.refusals.proofs.RefusalLaws.{not_passed}
use Rattle.types.specs.declared.Header.{Header}
use Rattle.types.specs.LineColumns.{header_columns, default_columns, border_columns, hub_columns, row_columns, factor_columns, sheet_factors}
use Rattle.types.specs.Ranges.{at_ℤ, allocated_items}
use Rattle.text.specs.Fields.{tab, feed}
use Rattle.text.specs.Line.{Line, byte_of}
use Rattle.text.specs.Written.{lines_text}
use Rattle.columns.specs.declared.Head.TheVariants.{Lettered, Indexed, Bare}
use Rattle.columns.specs.ColumnText.{columns_text, numbers_of}
use Rattle.tablerules.specs.Table.{Table, stretch, factors_at}
use Rattle.lines.specs.Lines.{RowLine}
use Rattle.lines.specs.RowKinds.{row_text_by}
use Rattle.lines.specs.SaidRow.{line_by}
use Rattle.lines.specs.declared.row.RowKind.{RowKind}
use Rattle.lines.specs.declared.row.RowKind.TheVariants.{Table as TableKind, Sheet}
use Rattle.lines.proofs.RowTrip.{row_read_lem}
use Rattle.layout.specs.Layout.{header_text, position_text, border_text, row_text_in}
use Rattle.corrections.specs.Corrections.{joined, pieces, sheet_kind, due_index, on_correction, judge_from}
use Rattle.reading.specs.Reading.{read_text, read_corrected}
use Rattle.reading.proofs.CorrectedLaws.{corrected}
use Rattle.rowsheet.specs.RowSheet.{Rows, read_sheet, sheet_of}
use Rattle.writing.specs.Writing.{table_text}
use Rattle.trips.proofs.RoundTrip.{read_write}
use Rattle.trips.proofs.SheetTrip as sheet
use Rattle.tidyrules.specs.Tidied.{wanted, tidied}
use Rattle.tidyrules.proofs.StaysLaws.{Stays, nothing, stays_append, stays_is, stays_tidied}
use Rattle.tidylaws.proofs.ColumnStays.{Suits, columns_stay}
use Rattle.std.specs.Prelude.{Ok, Err}

-- ---- rows, of either kind
factors_suit : (zones k : ℕ) → Suits false k (factor_columns zones)
factors_suit zero k = tt
factors_suit (suc zones) k = (refl, factors_suit zones (k + 1))

-- from field 8 on a row's fields are factors
wanted_factor : (k : ℕ) → 8 ≤ k → wanted true k ≡ 5
wanted_factor k h =
    rw (ne_eqb k 0 (λ e. not-suc-le-zero {n = 0} (omega arith)), ne_eqb k 5 (λ e. not-suc-le-zero {n = 0} (omega arith)), le-ltb k 8 h)

sheet_factors_suit : (zones k : ℕ) → 8 ≤ k → Suits true k (sheet_factors zones)
sheet_factors_suit zero k h = tt
sheet_factors_suit (suc zones) k h = (wanted_factor k h, sheet_factors_suit zones (k + 1) (omega arith))

row_stays : (kind : RowKind) (i : ℕ) (raw factors : List ℤ) → Stays (row_text_by kind i raw factors)
row_stays TableKind i raw factors =
    columns_stay false (Indexed (code "C") i) _ _ (numbers_of row_columns raw ++ factors) (refl, refl) (refl, (refl, (refl, (refl, (refl, (refl, (refl, factors_suit (length factors) 9)))))))
row_stays Sheet i raw factors =
    columns_stay true (Bare i) _ _ (numbers_of row_columns raw ++ factors) tt (refl, (refl, (refl, (refl, (refl, (refl, (refl, sheet_factors_suit (length factors) 8 (omega arith))))))))

-- ---- lines one after another
lines_stay : (n i : ℕ) (text_of : ℕ → List ℕ) → ((k : ℕ) → Stays (text_of k)) → Stays (lines_text n i text_of)
unfolding lines_text
lines_stay zero i text_of h = nothing
lines_stay (suc n) i text_of h = stays_append (h i) (lines_stay n (i + 1) text_of h)

-- ---- the table
header_stays : (h : Header) → Stays (header_text h)
header_stays h = go (lt_z h.share (pos 0))
  where
    go : (t : Bool) → Stays (columns_text tab (Lettered (code "H")) (cond t header_columns (header_columns ++ default_columns)) (pos h.zones ∷ pos h.borders ∷ pos h.rows ∷ h.share ∷ []))
    go true = columns_stay false (Lettered (code "H")) _ _ _ refl (refl, (refl, (refl, tt)))
    go false = columns_stay false (Lettered (code "H")) _ _ _ refl (refl, (refl, (refl, (refl, tt))))

border_stays : (i : ℕ) (raw : List ℤ) → Stays (border_text i raw)
border_stays i raw = go (lt_z (get_or raw 3 (pos 0)) (pos 0))
  where
    go : (t : Bool) → Stays (columns_text tab (Indexed (code "B") i) (cond t border_columns (border_columns ++ hub_columns)) raw)
    go true = columns_stay false (Indexed (code "B") i) _ _ raw (refl, refl) (refl, (refl, (refl, tt)))
    go false = columns_stay false (Indexed (code "B") i) _ _ raw (refl, refl) (refl, (refl, (refl, (refl, (refl, tt)))))

zone_stays : (i : ℕ) (net : ℤ) → Stays (position_text (code "Z") i net)
zone_stays i net = columns_stay false (Indexed (code "Z") i) _ _ (net ∷ []) (refl, refl) (refl, tt)

allocated_stays : (i : ℕ) (net : ℤ) → Stays (position_text (code "T") i net)
allocated_stays i net = columns_stay false (Indexed (code "T") i) _ _ (net ∷ []) (refl, refl) (refl, tt)

table_stays : (t : Table) → Stays (table_text t)
unfolding table_text
table_stays t =
    stays_append (stays_append (stays_append (stays_append
    (header_stays t.header)
    (lines_stay t.header.zones 0 _ (λ i. zone_stays i (at_ℤ t.nets i))))
    (lines_stay (allocated_items t.header) 0 _ (λ i. allocated_stays i (at_ℤ t.allocated i))))
    (lines_stay t.header.borders 0 _ (λ i. border_stays i (get_or t.borders i []))))
    (lines_stay t.header.rows 0 _ (λ i. row_stays TableKind i (get_or t.rows i []) (factors_at t i)))

-- a table that `read` accepts
pub table_unchanged : (text : List ℕ) (t : Table) → read_text text ≡ Ok t → tidied text ≡ text
table_unchanged text t e = stays_tidied (stays_is (read_write text t e) (table_stays t))

-- ---- the planners' sheet
-- a sheet that `read_rows` accepts with its header
pub rows_unchanged : (h : Header) (text : List ℕ) (t : Rows) → read_sheet h text ≡ Ok t → tidied text ≡ text
unfolding sheet_of
rows_unchanged h text t e =
    stays_tidied (stays_is (sheet.read_write h text t e) (lines_stay (length t.rows) 0 (row_text_in Sheet h.zones t.rows t.factors) (λ i. row_stays Sheet i (get_or t.rows i []) (stretch h.zones t.factors i))))

-- ---- the correction sheet
-- lines one after another
abbrev flat : List (List ℕ) → List ℕ
flat [] = []
flat (l ∷ ls) = l ++ flat ls

flat_joined : (b : ℕ) (ls : List (List ℕ)) → flat (joined b ls) ≡ b ∷ flat ls
flat_joined b [] = refl
flat_joined b (l ∷ ls) = refl

flat_pieces : (s : List ℕ) → flat (pieces s) ≡ s
flat_pieces [] = refl
flat_pieces (b ∷ s) = go (eqb b feed) (flat_pieces s)
  where
    go : (t : Bool) → flat (pieces s) ≡ s → flat (cond t ((b ∷ []) ∷ pieces s) (joined b (pieces s))) ≡ b ∷ s
    go true ih = ap (λ (l : List ℕ). b ∷ l) ih
    go false ih = flat_joined b (pieces s) ∙ ap (λ (l : List ℕ). b ∷ l) ih

-- a line that holds a row
held_stays : (kind : RowKind) (zones : ℕ) (text : List ℕ) (i : ℕ) (c : RowLine) → line_by kind zones text i ≡ Ok c → Stays text
held_stays kind zones text i c e = stays_is (sym (row_read_lem kind zones text i c e).0) (row_stays kind i c.values c.factors)

module _ (kind : RowKind) (zones rows : ℕ) where
  judged-stays : (least number : ℕ) (ls : List (List ℕ)) → judge_from kind zones rows least number ls ≡ Ok tt → Stays (flat ls)
  judged-stays least number [] e = nothing
  judged-stays least number (l ∷ ls) e = go (line_by kind zones l (due_index kind rows least l)) refl (λ q. judged-stays (due_index kind rows least l + 1) (number + 1) ls q) e
    where
      go : (r : Line RowLine) → line_by kind zones l (due_index kind rows least l) ≡ r → (judge_from kind zones rows (due_index kind rows least l + 1) (number + 1) ls ≡ Ok tt → Stays (flat ls))
          → on_correction r number (judge_from kind zones rows (due_index kind rows least l + 1) (number + 1) ls) ≡ Ok tt → Stays (l ++ flat ls)
      go (Ok c) h ih q = stays_append (held_stays kind zones l (due_index kind rows least l) c h) (ih q)
      go (Err bad) h ih q = absurd (not_passed (wrong_correction number (byte_of bad)) tt q)

-- a correction sheet that is accepted with its table, of C lines or of semicolon rows
pub corrections_unchanged : (text corrections : List ℕ) (t : Table) → read_corrected text corrections ≡ Ok t → tidied corrections ≡ corrections
corrections_unchanged text corrections t e =
    let c = corrected text corrections t e in
    stays_tidied (stays_is (flat_pieces corrections) (judged-stays (sheet_kind corrections) c.day.header.zones c.day.header.rows 0 1 (pieces corrections) c.good))
