-- 02, E8: "Old texts stay valid and mean the same." A text that was read by a limit of borders is read as the same table by every larger one (`read_more`), so a
-- text of before E8 is read as it was (`old-text`), and has the answer that it had (`old-answer`).
use Rattle.std.specs.Prelude.{Err, Ok}
use mathlib.Core.Path.{◌≡◌, refl, sym, ap, ◌∙◌}
use mathlib.Core.Bool.{Bool, true, false, cond, and-eq-true_iff}
use mathlib.Core.List.{List}
use Prim.Native.Char.{code}
use Prim.Native.Nat.{ℕ, ◌≤◌}
use native.Mathlib.Nat.{le_trans}
use borrow.Author.Tests.{leb-true, le-leb}
use lib.Dec.{leb, ltb, lit≤}
use lib.IntN.{ℤ}
use lib.ListN.{length}
use Rattle.numbers.proofs.TestLaws.{zero_one}
use Rattle.limits.specs.Limits.{borders_least, borders_most, bytes_most}
use Rattle.refusals.specs.Refusals.{Judged, then, either, too_long}
use Rattle.refusals.proofs.RefusalLaws.{not_passed, then_passed, then_next}
use Rattle.types.specs.declared.Header.{Header}
use Rattle.types.specs.LineColumns.{header_columns, default_columns}
use Rattle.types.specs.Ranges.{header_tests_by, header_fits}
use Rattle.types.proofs.AllLaws.{all_at}
use Rattle.text.specs.Fields.{tab}
use Rattle.text.specs.Line.{line_at, Line, refusal_of}
use Rattle.columns.specs.Columns.{Values, values, wrong}
use Rattle.columns.specs.ColumnLine.{judged}
use Rattle.columns.specs.declared.Head.TheVariants.{Lettered}
use Rattle.columns.specs.Optional.{optional_line}
use Rattle.tablerules.specs.Table.{Table, not_twice, header_line_no}
use Rattle.lines.specs.Lines.{header_of, header_bad, header_line}
use Rattle.reading.specs.Reading.{with_header, lines_by, read_text}
use Rattle.extractrules.specs.Extraction.{outcome_for}
use Rattle.result.specs.Refusal.{refusal_text}
use Rattle.answer.specs.Result.{result_text, answer_for}
use Rattle.oldtexts.specs.OldTexts.{borders_before, fits_by, out_by, header_by, lines_within, read_within, answer_within}
use Rattle.std.specs.Prelude.{Ok, Err}
use Rattle.text.specs.declared.LineFault.TheVariants.{Range}

-- ---- at today's limit
pub read_now : (text : List ℕ) → read_within borders_most text ≡ read_text text
unfolding read_within read_text lines_by header_line header_fits
read_now text = refl

pub answer_now : (all : Bool) (marks text : List ℕ) → answer_within borders_most all marks text ≡ answer_for all marks text
unfolding answer_within answer_for
answer_now all marks text = ap (λ (j : Judged Table). either (then j (outcome_for all marks)) result_text refusal_text) (read_now text)

-- ---- at a larger limit
module _ (limit larger : ℕ) (more : limit ≤ larger) where
  fits_more : (h : Header) → fits_by limit h ≡ true → fits_by larger h ≡ true
  fits_more h e =
      let all = all_at (header_tests_by limit h) e in
      let borders = (and-eq-true_iff (leb borders_least h.borders) (leb h.borders limit)).0 (all 1) in
      rw (all 0, borders.0, le-leb h.borders larger (le_trans (leb-true _ _ borders.1) more), all 2, all 3, all 4)

  header-more : (line : List ℕ) (h : Header) → header_by limit line ≡ Ok h → header_by larger line ≡ Ok h
  header-more line h e = go (optional_line tab (Lettered (code "H")) header_columns default_columns line) e
    where
      by : (zs : List ℤ) (t : Bool) → fits_by limit (header_of zs) ≡ t → cond t (Ok (header_of zs)) (Err (Range (out_by limit line zs))) ≡ Ok h
          → cond (fits_by larger (header_of zs)) (Ok (header_of zs)) (Err (Range (out_by larger line zs))) ≡ Ok h
      by zs true q e = ap (λ (t : Bool). cond t (Ok (header_of zs)) (Err (Range (out_by larger line zs)))) (fits_more (header_of zs) q) ∙ e
      by zs false q e = let z : ◌≡◌ {A = ℕ} 0 1 = cc in absurd (zero_one z)

      go : (v : Values) → judged (λ zs. fits_by limit (header_of zs)) header_of (header_bad line) (out_by limit line) v ≡ Ok h
          → judged (λ zs. fits_by larger (header_of zs)) header_of (header_bad line) (out_by larger line) v ≡ Ok h
      go (values zs next) e = by zs (fits_by limit (header_of zs)) refl e
      go (wrong place) e = e

  lines_more : (text : List ℕ) (t : Table) → lines_within limit text ≡ Ok t → lines_within larger text ≡ Ok t
  lines_more text t e = go (header_by limit (line_at text 0)) refl _ e
    where
      go : (l : Line Header) → header_by limit (line_at text 0) ≡ l → (next : Header → Judged Table) → with_header l next ≡ Ok t → with_header (header_by larger (line_at text 0)) next ≡ Ok t
      go (Ok h) q next e = ap (λ (l : Line Header). with_header l next) (header-more (line_at text 0) h q) ∙ e
      go (Err bad) q next e = absurd (not_passed (refusal_of bad header_line_no) t e)

  pub read_more : (text : List ℕ) (t : Table) → read_within limit text ≡ Ok t → read_within larger text ≡ Ok t
  unfolding read_within
  read_more text t e = go (ltb bytes_most (length text)) e
    where
      go : (long : Bool) → cond long (Err too_long) (then (lines_within limit text) not_twice) ≡ Ok t → cond long (Err too_long) (then (lines_within larger text) not_twice) ≡ Ok t
      go true e = absurd (not_passed too_long t e)
      go false e =
          let l = then_passed (lines_within limit text) not_twice t e in
          then_next not_twice (lines_more text l.it l.first) ∙ l.second

-- ---- texts of before E8
-- texts of before E8 stay valid, and are read as the same table
pub old_text : (text : List ℕ) (t : Table) → read_within borders_before text ≡ Ok t → read_text text ≡ Ok t
old_text text t e = sym (read_now text) ∙ read_more borders_before borders_most (lit≤ {m = borders_before} {n = borders_most} tt) text t e

-- texts of before E8 have the same answer, of every border or with marks
pub old_answer : (all : Bool) (marks text : List ℕ) (t : Table) → read_within borders_before text ≡ Ok t → answer_for all marks text ≡ answer_within borders_before all marks text
unfolding answer_for answer_within
old_answer all marks text t e = ap (λ (j : Judged Table). either (then j (outcome_for all marks)) result_text refusal_text) (old_text text t e ∙ sym e)
