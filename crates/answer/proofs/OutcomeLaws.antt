-- The outcome of a good table as the code comes to it: what `extract_good` answers, with room for the most results, and the text that is written of it. No contract cites this file.
-- In order: what `extract_good` answered; what is written; what `result_text` and `answer` do with it.
use Rattle.std.specs.Prelude.{Err, Ok, None}
use mathlib.Core.Path.{◌≡◌, refl, sym, ap, ap₂, ◌∙◌}
use mathlib.Core.Bool.{Bool, true, false, cond}
use mathlib.Core.List.{List}
use Prim.Native.Nat.{ℕ, ◌≤◌}
use lib.IntN.{ℤ}
use lib.ListN.{length, take}
use lib.Seq.{take_at}
use Rattle.numbers.specs.Below.{table, over}
use Rattle.numbers.proofs.BelowLaws.{table_long}
use Rattle.limits.specs.Limits.{borders_most, rows_most}
use Rattle.refusals.specs.declared.Refusal.{Refusal}
use Rattle.refusals.specs.Answers.{said_judgement}
use Rattle.refusals.specs.Refusals.{Judged, then, either, Ruling}
use Rattle.refusals.proofs.RefusalLaws.{passed_is, refused_is, not_passed, then_next, then_refused, either_passed, either_refused}
use Rattle.types.specs.declared.Header.{Header}
use Rattle.text.specs.Left.{TextLeft, text_left}
use Rattle.text.proofs.LeftLaws.{text_refused}
use Rattle.marks.specs.Marks.{may_rise}
use Rattle.tablerules.specs.Table.{Table, front, judge_lent}
use Rattle.tablerules.specs.Good.{Good}
use Rattle.tablerules.proofs.GoodLaws.{told_judged}
use Rattle.reading.specs.Reading.{read_corrected}
use Rattle.extractrules.specs.Extraction.{Result, result_marked, outcome_for, atc_record, row_record, ExtractLeft, leaves, result_stored}
use Rattle.extractrules.specs.Inner.{outcome_left}
use Rattle.extractrules.proofs.AcceptedLaws.{accepted}
use Rattle.extractrules.proofs.LentLaws.{outcome_roomy}
use Rattle.extractrules.proofs.MarkedLaws.{for_is}
use Rattle.result.specs.Records.{records_text}
use Rattle.result.specs.Refusal.{refusal_text}
use Rattle.answer.specs.Result.{result_text, result_text_for, answer_with, answer_with_left}
use Rattle.answer.specs.Printed.{printed, outcome_said}
use Rattle.answer.specs.Told.{told_of, told_with}

-- ---- what `extract_good` answered
module _ (ps : List ℕ) (atcs lefts : List (List ℤ)) where
  abbrev extracted : Judged Result → ExtractLeft
  extracted o = either o (result_stored ps atcs lefts) (λ w. leaves (Err w) ps atcs lefts)

  refused-from : (o : Judged Result) (w : Refusal) {ps' : List ℕ} {atcs' lefts' : List (List ℤ)} → leaves (Err w) ps' atcs' lefts' ≡ extracted o → o ≡ Err w
  unfolding either
  refused-from (Ok r) w e = absurd (not_passed w r.outcome.rounds (ap (λ (l : ExtractLeft). l.answer) e))
  refused-from (Err v) w e = ap Err (sym (refused_is {A = ℕ} w v (ap (λ (l : ExtractLeft). l.answer) e)))

  record Stored (o : Judged Result) (rounds : ℕ) (ps' : List ℕ) (atcs' lefts' : List (List ℤ)) : Type 0 where
    it : Result
    is : o ≡ Ok it
    left : leaves (Ok rounds) ps' atcs' lefts' ≡ result_stored ps atcs lefts it

  stored-from : (o : Judged Result) (rounds : ℕ) {ps' : List ℕ} {atcs' lefts' : List (List ℤ)} → leaves (Ok rounds) ps' atcs' lefts' ≡ extracted o → Stored o rounds ps' atcs' lefts'
  unfolding either
  stored-from (Ok r) rounds e = record { it = r; is = refl; left = e }
  stored-from (Err v) rounds e = absurd (not_passed v rounds (sym (ap (λ (l : ExtractLeft). l.answer) e)))

-- the records that were stored stand in front
stored_front : (n m : ℕ) (f : ℕ → List ℤ) (new old : List (List ℤ)) → new ≡ over (table n f) old → n ≡ m → take m new ≡ table n f
stored_front n m f new old a b = ap (take m) a ∙ take_at (table n f) _ m (table_long n f ∙ b)

module _ (all : Bool) (marks : List ℕ) (t : Table) (good : Good t) (ps : List ℕ) (atcs lefts : List (List ℤ)) (hb : borders_most ≤ length atcs) (hr : rows_most ≤ length lefts)
    (e : Judged ℕ) {ps' : List ℕ} {atcs' lefts' : List (List ℤ)} (said : leaves e ps' atcs' lefts' ≡ outcome_left (outcome_for all marks t) ps atcs lefts) where
  -- there is room for every result, so the answer is the outcome's
  told-by : {x : Judged ℕ} → e ≡ x → leaves x ps' atcs' lefts' ≡ extracted ps atcs lefts (outcome_for all marks t)
  told-by k = ap (λ (y : Judged ℕ). leaves y ps' atcs' lefts') (sym k) ∙ said ∙ outcome_roomy all marks ps atcs lefts hb hr t good

  pub outcome_refused : (w : Refusal) → e ≡ Err w → outcome_for all marks t ≡ Err w
  outcome_refused w k = refused-from ps atcs lefts (outcome_for all marks t) w (told-by k)

  -- a result tells that it passed
  pub outcome_passed : (rounds : ℕ) → e ≡ Ok rounds → (Ok tt) ≡ told_of (outcome_for all marks t)
  outcome_passed rounds k = ap (λ (o : Judged Result). told_of o) (sym (stored-from ps atcs lefts (outcome_for all marks t) rounds (told-by k)).is)

  -- the records in front give the result's text
  pub outcome_told : (line : Bool) (out : List ℕ) (rounds : ℕ) → e ≡ Ok rounds
      → text_left (Ok (records_text (take t.header.borders atcs') (take t.header.rows lefts') rounds)) out ≡ text_left (outcome_said line (outcome_for all marks t)) out
  unfolding result_text outcome_said result_marked
  outcome_told line out rounds k =
      let u = stored-from ps atcs lefts (outcome_for all marks t) rounds (told-by k) in
      let r = u.it in
      let h : r.header ≡ t.header = sym (ap (λ (v : Result). v.header) (accepted (may_rise all marks) t r (for_is all marks t r u.is)).is) in
      ap (λ (text : List ℕ). text_left (Ok text) out)
      (ap (records_text (take t.header.borders atcs') (take t.header.rows lefts')) (passed_is _ _ (ap (λ (l : ExtractLeft). l.answer) u.left))
      ∙ ap₂ (λ (a m : List (List ℤ)). records_text a m r.outcome.rounds)
      (stored_front _ _ (atc_record r) atcs' atcs (ap (λ (l : ExtractLeft). l.atcs) u.left) (ap (λ (v : Header). v.borders) h))
      (stored_front _ _ (row_record r) lefts' lefts (ap (λ (l : ExtractLeft). l.lefts) u.left) (ap (λ (v : Header). v.rows) h)))
      ∙ ap (λ (j : Judged (List ℕ)). text_left j out) (sym (either_passed _ _ u.is))

-- ---- a refusal, as the E line or told
module _ (line : Bool) (o : Judged Result) (out : List ℕ) (w : Refusal) (e : o ≡ Err w) where
  pub line_written : line ≡ true → text_left (Ok (refusal_text w)) out ≡ text_left (outcome_said line o) out
  unfolding outcome_said
  line_written k = ap (λ (j : Judged (List ℕ)). text_left j out) (sym (either_refused _ _ e ∙ ap (λ (l : Bool). cond l (Ok (refusal_text w)) (Err w)) k))

  pub refusal_is : Err w ≡ told_of o
  refusal_is = ap (λ (j : Judged Result). told_of j) (sym e)

  told : line ≡ false → outcome_said line o ≡ Err w
  unfolding outcome_said
  told k = either_refused _ _ e ∙ ap (λ (l : Bool). cond l (Ok (refusal_text w)) (Err w)) k

  pub refusal_told : line ≡ false → ◌≡◌ {A = TextLeft} (record { answer = Err w; out = out }) (text_left (outcome_said line o) out)
  refusal_told k = text_refused out (told k)

  pub no_text : line ≡ false → (text : List ℕ) → outcome_said line o ≡ Ok text → ⊥
  no_text k text is = not_passed w text (sym (told k) ∙ is)

pub told_said : (o : Judged Result) → outcome_said false o ≡ then o (λ r. Ok (result_text r))
unfolding outcome_said then either
told_said (Ok r) = refl
told_said (Err w) = refl

pub line_said : (o : Judged Result) → outcome_said true o ≡ Ok (printed o)
unfolding outcome_said printed either
line_said (Ok r) = refl
line_said (Err w) = refl

-- ---- `result_text` of lent tables that were judged
module _ (all : Bool) (marks : List ℕ) (given : Table) (out : List ℕ) (r : Ruling) (said : said_judgement r (front given) ≡ judge_lent given) where
  pub lent_refused : (w : Refusal) → r ≡ Err w → ◌≡◌ {A = TextLeft} (record { answer = Err w; out = out }) (result_text_for all marks given out)
  unfolding result_text_for
  lent_refused w e = text_refused out (then_refused _ (sym said ∙ ap (λ (j : Ruling). said_judgement j (front given)) e))

  pub lent_said : r ≡ (Ok tt) → text_left (outcome_said false (outcome_for all marks (front given))) out ≡ result_text_for all marks given out
  unfolding result_text_for
  lent_said e = ap (λ (j : Judged (List ℕ)). text_left j out) (told_said _ ∙ sym (then_next _ (told_judged None given r said e)))

-- ---- `answer` of texts that were read
module _ (all : Bool) (marks text sheet out : List ℕ) where
  pub read_refused : (w : Refusal) → read_corrected text sheet ≡ Err w → text_left (Ok (refusal_text w)) out ≡ answer_with_left all marks text sheet out
  unfolding answer_with_left answer_with
  read_refused w e = ap (λ (answer : List ℕ). text_left (Ok answer) out) (sym (either_refused _ _ (then_refused (outcome_for all marks) e)))

  pub read_said_lem : (t : Table) → read_corrected text sheet ≡ Ok t → text_left (outcome_said true (outcome_for all marks t)) out ≡ answer_with_left all marks text sheet out
  unfolding answer_with_left answer_with printed
  read_said_lem t e =
      ap (λ (j : Judged (List ℕ)). text_left j out)
      (line_said (outcome_for all marks t) ∙ ap (λ (o : Judged Result). Ok (either o result_text refusal_text)) (sym (then_next (outcome_for all marks) e)))

  -- and what it tells
  pub read_refused_told : (w : Refusal) → read_corrected text sheet ≡ Err w → Err w ≡ told_with all marks text sheet
  unfolding told_with
  read_refused_told w e = ap (λ (o : Judged Result). told_of o) (sym (then_refused (outcome_for all marks) e))

  pub read_said_told : (t : Table) → read_corrected text sheet ≡ Ok t → told_of (outcome_for all marks t) ≡ told_with all marks text sheet
  unfolding told_with
  read_said_told t e = ap (λ (o : Judged Result). told_of o) (sym (then_next (outcome_for all marks) e))
