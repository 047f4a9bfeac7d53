-- Correction sheets and the table's text (02, E2): demand 2 of the merged table, and that the day's own rows change nothing.
use Rattle.std.specs.Prelude.{Ok}
use mathlib.Core.Path.{◌≡◌, refl, sym, ap, subst, ◌∙◌}
use mathlib.Core.List.{List}
use Prim.Native.Nat.{ℕ, ◌≤◌}
use native.Mathlib.Omega.{arith}
use lib.ListN.{length, take, length-drop}
use lib.Seq.{take_at}
use Rattle.numbers.specs.Below.{over}
use Rattle.limits.specs.Limits.{bytes_most}
use Rattle.refusals.specs.Refusals.{Judged}
use Rattle.refusals.proofs.RefusalLaws.{passed_is, then_passed, then_next, answer_passed, need_passed}
use Rattle.text.specs.Left.{TextLeft, text_left}
use Rattle.text.proofs.LeftLaws.{text_left_lem}
use Rattle.tablerules.specs.Table.{Table}
use Rattle.tablerules.specs.Good.{Good}
use Rattle.lines.specs.declared.row.RowKind.{RowKind}
use Rattle.lines.specs.declared.row.RowKind.TheVariants as row_kind
use Rattle.layout.specs.Layout.{rows_text_by}
use Rattle.rowlines.specs.Rows.{as_given}
use Rattle.reading.specs.Reading.{read_text, read_corrected}
use Rattle.reading.proofs.ReadLaws.{Opened, opened, reading, rows_held, read_good}
use Rattle.reading.proofs.CorrectedLaws.{corrected_good, corrected_shaped}
use Rattle.trips.proofs.OwnLines.{own_lines}
use Rattle.rowsheet.specs.RowSheet.{sheet_of}
use Rattle.rowsheet.proofs.JudgedLaws.{never_too_long}
use Rattle.writing.specs.Writing.{table_text}
use Rattle.rewriting.specs.Rewriting.{rewrite_corrected_left}
use Rattle.trips.proofs.SectionTrip.{rows_section_lem}
use Rattle.trips.proofs.TableTrip.{rows_text_lem, rows_good}
use Rattle.trips.proofs.RoundTrip.{write_read}

-- the merged table, written, reads back as itself without a sheet
pub merged_reads_back : (text sheet : List ℕ) (t : Table) → read_corrected text sheet ≡ Ok t → read_text (table_text t) ≡ Ok t
merged_reads_back text sheet t e = write_read t (corrected_good text sheet t e) (corrected_shaped text sheet t e)

-- what `rewrite_corrected` leaves reads back as the merged table
pub rewritten_reads_back : (text sheet out : List ℕ) (n : ℕ) → (rewrite_corrected_left text sheet out).answer ≡ Ok n → read_text (take n (rewrite_corrected_left text sheet out).out) ≡ read_corrected text sheet
unfolding rewrite_corrected_left text_left
rewritten_reads_back text sheet out n e =
    let a = answer_passed _ _ _ (λ (l : TextLeft). l.answer) n (λ w. refl) e in
    let r = then_passed _ _ a.0 a.1 in
    let m = then_passed (read_corrected text sheet) _ r.it r.first in
    let t = m.it in
    let room = need_passed a.0 _ _ _ r.second in
    let whole : table_text t ≡ a.0 = passed_is _ _ m.second ∙ passed_is _ _ room.1 in
    let short : length (table_text t) ≤ length out = omega (arith, room.0, ap length (passed_is _ _ room.1), ap length whole) in
    let left : (rewrite_corrected_left text sheet out).out ≡ over (table_text t) out = ap (λ (l : TextLeft). l.out) (ap (λ (j : Judged (List ℕ)). text_left j out) (then_next _ m.first) ∙ text_left_lem (table_text t) out short) in
    let bytes : length (table_text t) ≡ n = ap length whole ∙ passed_is _ _ a.2 in
    ap read_text (ap (take n) left ∙ take_at (table_text t) _ n bytes) ∙ merged_reads_back text sheet t m.first ∙ sym m.first

-- a sheet of all the day's own rows changes nothing, of either kind: C lines, or lines of the planners' sheet
pub own_lines_change_nothing : (kind : RowKind) (text : List ℕ) (t : Table) → read_text text ≡ Ok t → read_corrected text (rows_text_by kind t.header.zones t.rows t.factors) ≡ read_text text
unfolding sheet_of
own_lines_change_nothing kind text t e =
    let rows = rows_section_lem kind t.header.zones t.rows t.factors o.lines o.values_are o.factors_are (rows_held as_given text t o).1 in
    ap (read_corrected text) rows ∙ own_lines kind text t e o (subst (λ (l : List ℕ). length l ≤ bytes_most) rows (short kind)) ∙ sym e
  where
    o : Opened as_given text t
    o = opened as_given text t (reading text t e).lines

    g : Good t
    g = read_good text t e

    short : (k : RowKind) → length (rows_text_by k t.header.zones t.rows t.factors) ≤ bytes_most
    short row_kind.Table = omega (arith, ap length (rows_text_lem text t o), length-drop o.q text, (reading text t e).short)
    short row_kind.Sheet =
        never_too_long t.header (record { rows = t.rows; factors = t.factors }) g.exact.header g.exact.rows_long g.exact.factors_long
        (rows_good t g)
