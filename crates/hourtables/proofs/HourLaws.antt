-- From what the calls answer to an hour's figures: the extraction (`found-is`), and the text. No contract cites this file.
use Rattle.std.specs.Prelude.{Err, Ok}
use mathlib.Core.Path.{◌≡◌, refl, sym, ap, ap₂, ◌∙◌}
use mathlib.Core.Bool.{Bool}
use mathlib.Core.List.{List, []}
use Prim.Native.Nat.{ℕ, ◌≤◌}
use native.Mathlib.Omega.{arith}
use lib.IntN.{ℤ, nat_abs}
use lib.ListN.{length, get_or, take}
use lib.Seq.{take_at}
use Rattle.limits.specs.Limits.{borders_most, rows_most}
use Rattle.numbers.specs.Below.{table, over}
use Rattle.numbers.proofs.BelowLaws.{table_long, table_get, table_cong}
use Rattle.refusals.specs.declared.Refusal.{Refusal}
use Rattle.refusals.specs.Refusals.{Judged, then, either}
use Rattle.refusals.proofs.RefusalLaws.{passed_is, refused_is, not_passed, either_passed, either_refused}
use Rattle.types.specs.declared.Header.{Header}
use Rattle.types.specs.Ranges.{at_ℤ}
use Rattle.marks.specs.Marks.{may_rise}
use Rattle.tablerules.specs.Table.{Table}
use Rattle.tablerules.specs.Good.{Good}
use Rattle.extractrules.specs.Extraction.{Result, result_marked, outcome_for, atc_of, atc_record, ExtractLeft, leaves, result_stored}
use Rattle.extractrules.specs.Inner.{outcome_left}
use Rattle.extractrules.proofs.AcceptedLaws.{accepted}
use Rattle.extractrules.proofs.LentLaws.{outcome_roomy}
use Rattle.extractrules.proofs.MarkedLaws.{for_is}
use Rattle.reading.specs.Reading.{read_text, read_corrected}
use Rattle.reading.proofs.EmptySheet.{empty_sheet}
use Rattle.hourfigures.specs.Items.{atcs_of}
use Rattle.hourfigures.specs.Figures.{Found, found_in, Figures, figures, refused_hour, figures_by, kept_of}
use Rattle.hourfigures.proofs.KeptLaws.{refused_kept}
use Rattle.hourtables.specs.Hour.{found_of, found_for, hour_of}

-- ---- the ATCs of the records that were stored
stored_atcs : (r : Result) (n : ℕ) (new old : List (List ℤ)) → r.header.borders ≡ n → new ≡ over (table r.header.borders (atc_record r)) old → atcs_of (take n new) ≡ table r.header.borders (atc_of r)
unfolding atcs_of atc_record atc_of
stored_atcs r n new old h e =
    let m = r.header.borders in
    let front : take n new ≡ table m (atc_record r) = ap (take n) e ∙ take_at (table m (atc_record r)) _ n (table_long m (atc_record r) ∙ h) in
    ap (λ (l : List (List ℤ)). atcs_of l) front
    ∙ ap (λ (k : ℕ). table k (λ b. nat_abs (at_ℤ (get_or (table m (atc_record r)) b []) 0))) (table_long m (atc_record r))
    ∙ table_cong m _ _ (λ b l. ap (λ (x : List ℤ). nat_abs (at_ℤ x 0)) (table_get m (atc_record r) b [] l))

abbrev found : (rounds : ℕ) → (atcs : List ℕ) → Found
found rounds atcs = record { rounds = rounds; atcs = atcs }

-- ---- what the extraction of a good table tells, with room for the most results
module _ (all : Bool) (marks : List ℕ) (t : Table) (good : Good t) (ps : List ℕ) (atcs lefts : List (List ℤ)) (hb : borders_most ≤ length atcs) (hr : rows_most ≤ length lefts) where
  pub found_is : (e : Judged ℕ) {ps' : List ℕ} {atcs' lefts' : List (List ℤ)} → leaves e ps' atcs' lefts' ≡ outcome_left (outcome_for all marks t) ps atcs lefts
      → found_in t.header.borders e atcs' ≡ found_for all marks t
  unfolding result_marked either then
  found_is e {ps'} {atcs'} {lefts'} said = go e (outcome_for all marks t) refl (said ∙ outcome_roomy all marks ps atcs lefts hb hr t good)
    where
      go : (e : Judged ℕ) (o : Judged Result) → outcome_for all marks t ≡ o
          → leaves e ps' atcs' lefts' ≡ either o (result_stored ps atcs lefts) (λ w. leaves (Err w) ps atcs lefts)
          → found_in t.header.borders e atcs' ≡ then o (λ r. Ok (found_of r))
      go (Ok n) (Ok r) is l =
          let h : r.header ≡ t.header = sym (ap (λ (v : Result). v.header) (accepted (may_rise all marks) t r (for_is all marks t r is)).is) in
          ap₂ (λ (k : ℕ) (items : List ℕ). Ok (found k items))
          (passed_is _ _ (ap (λ (x : ExtractLeft). x.answer) l))
          (stored_atcs r t.header.borders atcs' atcs (ap (λ (x : Header). x.borders) h) (ap (λ (x : ExtractLeft). x.atcs) l))
      go (Ok n) (Err w) is l = absurd (not_passed w n (sym (ap (λ (x : ExtractLeft). x.answer) l)))
      go (Err w) (Ok r) is l = absurd (not_passed w r.outcome.rounds (ap (λ (x : ExtractLeft). x.answer) l))
      go (Err w) (Err v) is l = ap Err (refused_is {A = ℕ} w v (ap (λ (x : ExtractLeft). x.answer) l))

-- ---- of a text that was read
module _ (k : ℕ) (ways atcs : List ℕ) (all : Bool) (marks text : List ℕ) where
  pub read_kept : (t : Table) → read_corrected text [] ≡ Ok t → {found : Judged Found} → found ≡ found_for all marks t → {left : Figures}
      → left ≡ kept_of (figures_by t.header t.borders found) k ways atcs → left ≡ kept_of (hour_of all marks text) k ways atcs
  unfolding hour_of
  read_kept t e f l =
      l ∙ ap (λ (x : Judged Found). kept_of (figures_by t.header t.borders x) k ways atcs) f
      ∙ ap (λ (x : Figures). kept_of x k ways atcs) (sym (either_passed _ _ (sym (empty_sheet text) ∙ e)))

  pub read_refused : (w : Refusal) → read_corrected text [] ≡ Err w → figures (refused_hour w).hour ways atcs ≡ kept_of (hour_of all marks text) k ways atcs
  unfolding hour_of
  read_refused w e = refused_kept k ways atcs w ∙ ap (λ (x : Figures). kept_of x k ways atcs) (sym (either_refused _ _ (sym (empty_sheet text) ∙ e)))
