-- 02, E2: "Demands 2 and 3 then read of the merged table". The table that is read of two texts is the table of the merged text, byte for byte.
use Rattle.std.specs.Prelude.{Ok}
use mathlib.Core.Path.{◌≡◌, refl, sym, ap, ◌∙◌}
use mathlib.Core.Bool.{false}
use mathlib.Core.List.{List, ◌++◌}
use Prim.Native.Nat.{ℕ}
use native.Mathlib.Omega.{arith}
use lib.IntN.{ℤ}
use Rattle.types.specs.declared.Header.{Header}
use Rattle.types.specs.Ranges.{allocated_items, profiled}
use Rattle.text.specs.Line.{line_at, after, Line}
use Rattle.columns.specs.ColumnText.{columns_text, head_text}
use Rattle.sections.specs.Section.{lines_at}
use Rattle.sections.proofs.SectionLaws.{section_text}
use Rattle.sections.proofs.SectionRecords.{lines_then}
use Rattle.tablerules.specs.Table.{Table, zone_line_no, allocated_line_no, border_line_no, row_line_no}
use Rattle.lines.specs.Lines.{zone_line, allocated_line, border_line, row_line}
use Rattle.lines.proofs.HeaderTrip.{header_read}
use Rattle.lines.proofs.ZoneTrip.{zone_read_lem}
use Rattle.lines.proofs.BorderTrip.{border_read_lem}
use Rattle.corrections.specs.Corrections.{pieces, handed_by}
use Rattle.rowlines.specs.Rows.{as_given}
use Rattle.reading.specs.Reading.{lines_of, read_text, read_corrected}
use Rattle.reading.proofs.ReadLaws.{Opened, reading, nets_held, allocated_held, borders_held, rows_held}
use Rattle.reading.proofs.CorrectedLaws.{corrected}
use Rattle.layout.specs.Layout.{header_text, zone_text, allocated_text, border_text}
use Rattle.writing.specs.Writing.{table_text}
use Rattle.trips.proofs.SectionTrip.{row_line_of, Lined, sections, text_sections}
use Rattle.trips.proofs.Corrected.{merged_reads_back}
use Rattle.merged.specs.Merged.{merged_from, zones_in, merged_text}
use Rattle.merged.proofs.MergedLaws.{Other, merged_at, other_line, others_stay, rows_handed}

-- ---- no line before the rows is a C line
header_other : (t : Table) → Other (header_text t.header)
unfolding columns_text head_text
header_other t = (omega arith, refl)

zone_other : (i : ℕ) (net : ℤ) → Other (zone_text i net)
unfolding columns_text head_text
zone_other i net = (omega arith, refl)

allocated_other : (i : ℕ) (net : ℤ) → Other (allocated_text i net)
unfolding columns_text head_text
allocated_other i net = (omega arith, refl)

border_other : (i : ℕ) (raw : List ℤ) → Other (border_text i raw)
unfolding columns_text head_text
border_other i raw = (omega arith, refl)

-- ---- the table that was read with a sheet, by its lines
module _ (text sheet : List ℕ) (t day : Table) (o : Opened (handed_by sheet) text t) (days : lines_of text ≡ Ok day) where
  corrected-lined : Lined t o.lines
  corrected-lined = record {
    nets_long = (nets_held _ text t o).0;
    allocated_long = (allocated_held _ text t o).0;
    borders_long = (borders_held _ text t o).0;
    lines_long = (rows_held _ text t o).0;
    values_are = o.values_are;
    factors_are = o.factors_are;
    held = (rows_held _ text t o).1;
  }

  rows-merged : merged_at t.header.zones (handed_by sheet) text o.q 0 ≡ section_text row_line_of 0 o.lines
  rows-merged =
      lines_then day (lines_at (row_line t.header.zones) (row_line_no t.header) t.header.rows text o.q 0) _ (sym (o.left as_given) ∙ days) (λ own e own-are rest.
      rows_handed t.header.zones (handed_by sheet) text (row_line_no t.header) t.header.rows o.q 0 own e o.lines o.e own-are o.rows_are o.whole)

  merged-sections : merged_text text sheet ≡ sections t o.lines
  unfolding merged_text
  merged-sections =
      let n = t.header.zones in
      let s = handed_by sheet in
      let h = other_line n s text 0 0 (header_text t.header) (header_read (line_at text 0) (profiled t.header false) o.header_is).0 (header_other t) in
      let z = others_stay n s text zone_line zone_line_no zone_text (λ line i net e. (zone_read_lem _ line i net e).0) zone_other 0 t.header.zones (after text 0) 0 t.nets o.p o.nets_are in
      let a = others_stay n s text allocated_line (allocated_line_no t.header) allocated_text (λ line i net e. (zone_read_lem _ line i net e).0) allocated_other 0 (allocated_items t.header) o.p 0 t.allocated o.o o.allocated_are in
      let b = others_stay n s text (border_line t.header.zones) (border_line_no t.header) border_text (λ line i raw e. (border_read_lem t.header.zones line i raw e).0) border_other 0 t.header.borders o.o 0 t.borders o.q o.borders_are in
      ap (λ (l : Line Header). merged_from (zones_in l) s 0 (pieces text)) o.header_is
      ∙ h ∙ ap (λ (l : List ℕ). header_text t.header ++ l)
      (z ∙ ap (λ (l : List ℕ). section_text zone_text 0 t.nets ++ l)
      (a ∙ ap (λ (l : List ℕ). section_text allocated_text 0 t.allocated ++ l)
      (b ∙ ap (λ (l : List ℕ). section_text border_text 0 t.borders ++ l) rows-merged)))

-- ---- the theorem
-- the table that two texts give, written, is the merged text, byte for byte
pub merged_text_lem : (text sheet : List ℕ) (t : Table) → read_corrected text sheet ≡ Ok t → table_text t ≡ merged_text text sheet
merged_text_lem text sheet t e =
    let c = corrected text sheet t e in
    let o = c.opened in
    let days = (reading text c.day c.read).lines in
    text_sections t o.lines (corrected-lined text sheet t c.day o days) ∙ sym (merged-sections text sheet t c.day o days)

-- reading both texts is reading the merged one
pub merged_reads : (text sheet : List ℕ) (t : Table) → read_corrected text sheet ≡ Ok t → read_text (merged_text text sheet) ≡ Ok t
merged_reads text sheet t e = ap read_text (sym (merged_text_lem text sheet t e)) ∙ merged_reads_back text sheet t e
