-- The text of a table as sections of lines (writing: specs/Writing): each line written is the one that reading knows, and lines by index are the lines of a list. No contract cites this file.
use mathlib.Core.Path.{◌≡◌, sym, ap, ap₂, subst, ◌∙◌}
use mathlib.Core.List.{List, [], ◌++◌, append_assoc}
use Prim.Native.Nat.{ℕ, ◌<◌}
use native.Mathlib.Nat.{zero-add}
use lib.IntN.{ℤ, pos}
use lib.ListN.{length, get_or}
use Rattle.types.specs.Ranges.{at_ℤ, allocated_items}
use Rattle.text.specs.Written.{lines_text}
use Rattle.sections.proofs.SectionLaws.{section_text, AllFit}
use Rattle.sections.proofs.SectionRecords.{lines_section}
use Rattle.tablerules.specs.Table.{Table, factors_at, stretch}
use Rattle.lines.specs.Lines.{RowLine}
use Rattle.rowlines.specs.Rows.{values_of, factors_of}
use Rattle.lines.specs.RowKinds.{row_text_by}
use Rattle.lines.specs.declared.row.RowKind.{RowKind}
use Rattle.lines.specs.declared.row.RowKind.TheVariants as row_kind
use Rattle.lines.proofs.RowTrip.{text_by, RowHeldAt}
use Rattle.rowlines.proofs.RowLaws.{empty_row, values_long, values_at, stretch_of}
use Rattle.layout.specs.Layout.{header_text, zone_text, allocated_text, border_text, row_text, row_text_in, rows_text_by}
use Rattle.writing.specs.Writing.{table_text}

-- a C line by what reading holds of it
abbrev pub row_line_of : (i : ℕ) → RowLine → List ℕ
row_line_of i c = row_text i c.values c.factors

-- ---- the lines of rows, by their kind
module _ (kind : RowKind) (zones : ℕ) (rows : List (List ℤ)) (factors : List ℤ) (lines : List RowLine) (values_are : values_of lines ≡ rows) (factors_are : factors_of lines ≡ factors) (held : AllFit (RowHeldAt zones) 0 lines) where
  rows_many : length lines ≡ length rows
  rows_many = sym (values_long lines) ∙ ap length values_are

  row_is : (k : ℕ) → k < length lines → row_text_in kind zones rows factors k ≡ text_by kind k (get_or lines k empty_row)
  row_is k h =
      ap₂ (λ (v f : List ℤ). row_text_by kind k v f)
      (ap (λ (l : List (List ℤ)). get_or l k []) (sym values_are) ∙ values_at lines k)
      (ap (λ (f : List ℤ). stretch zones f k) (sym factors_are) ∙ stretch_of zones lines 0 held k h)

  pub rows_section_lem : rows_text_by kind zones rows factors ≡ section_text (text_by kind) 0 lines
  rows_section_lem =
      subst (λ (n : ℕ). lines_text n 0 (row_text_in kind zones rows factors) ≡ section_text (text_by kind) 0 lines) rows_many
      (lines_section (text_by kind) empty_row lines 0 _ (λ k h. rw (zero-add k) (row_is k h)))

-- ---- the whole text
module _ (t : Table) (lines : List RowLine) where
  -- the C lines hold the rows of the table
  pub record Lined : Type 0 where
    pub nets_long : length t.nets ≡ t.header.zones
    pub allocated_long : length t.allocated ≡ allocated_items t.header
    pub borders_long : length t.borders ≡ t.header.borders
    pub lines_long : length lines ≡ t.header.rows
    pub values_are : values_of lines ≡ t.rows
    pub factors_are : factors_of lines ≡ t.factors
    pub held : AllFit (RowHeldAt t.header.zones) 0 lines

  abbrev pub sections : List ℕ
  sections = header_text t.header ++ (section_text zone_text 0 t.nets ++ (section_text allocated_text 0 t.allocated ++ (section_text border_text 0 t.borders ++ section_text row_line_of 0 lines)))

  module _ (l : Lined) where
    zones-lines : lines_text t.header.zones 0 (λ i. zone_text i (at_ℤ t.nets i)) ≡ section_text zone_text 0 t.nets
    zones-lines = rw (← l.nets_long) (lines_section zone_text (pos 0) t.nets 0 _ (λ k h. rw (zero-add k)))

    allocated-lines : lines_text (allocated_items t.header) 0 (λ i. allocated_text i (at_ℤ t.allocated i)) ≡ section_text allocated_text 0 t.allocated
    allocated-lines = rw (← l.allocated_long) (lines_section allocated_text (pos 0) t.allocated 0 _ (λ k h. rw (zero-add k)))

    borders-lines : lines_text t.header.borders 0 (λ i. border_text i (get_or t.borders i [])) ≡ section_text border_text 0 t.borders
    borders-lines = rw (← l.borders_long) (lines_section border_text [] t.borders 0 _ (λ k h. rw (zero-add k)))

    rows-lines : lines_text t.header.rows 0 (λ i. row_text i (get_or t.rows i []) (factors_at t i)) ≡ section_text row_line_of 0 lines
    rows-lines =
        subst (λ (n : ℕ). lines_text n 0 (λ i. row_text i (get_or t.rows i []) (factors_at t i)) ≡ section_text row_line_of 0 lines) (ap length (sym l.values_are) ∙ values_long lines ∙ l.lines_long)
        (rows_section_lem row_kind.Table t.header.zones t.rows t.factors lines l.values_are l.factors_are l.held)

    pub text_sections : table_text t ≡ sections
    unfolding table_text
    text_sections = rw (zones-lines, allocated-lines, borders-lines, rows-lines) (simp append_assoc)
