-- Demand 3, which row stopped a border (02, E7), and that refusal 7 isn't given where CVA and IVA are 0, of the text that a call leaves: said of its bytes, for every text
-- and correction sheet that is answered, of every border or with marks, and for lent tables. With a sheet the theorems speak of the merged table (02, E2).
-- `answer_corrected` is of every border; `answer` and `answer_marked` are of an empty sheet (`empty-answer`).
use Rattle.std.specs.Prelude.{Err, Ok}
use mathlib.Core.Path.{◌≡◌, refl, sym, ap, subst, ◌∙◌}
use mathlib.Core.Bool.{Bool, true, false}
use mathlib.Core.List.{List, [], ◌∷◌, ◌++◌}
use mathlib.Core.Logic.{◌⊎◌, inl, inr}
use Prim.Native.Char.{code}
use Prim.Native.Nat.{ℕ, zero, suc, ◌<◌}
use native.Mathlib.Omega.{arith}
use lib.IntN.{ℤ}
use lib.ListN.{length, take}
use lib.Seq.{take_at}
use Rattle.numbers.specs.Below.{at, table, over}
use Rattle.refusals.specs.declared.Refusal.{Refusal}
use Rattle.refusals.specs.Refusals.{Judged, number_of, place_of, byte_of, then, either, need}
use Rattle.refusals.proofs.RefusalLaws.{passed_is, answer_passed, then_passed, then_next, either_passed, need_passed}
use Rattle.marks.specs.Marks.{judge_marks, judge_asked, may_rise}
use Rattle.text.specs.Left.{TextLeft, text_left}
use Rattle.text.specs.Written.{text_of, decimal, fields_text, line_text, lines_text}
use Rattle.columns.specs.ColumnText.{index_text, head_text, columns_text}
use Rattle.tablerules.specs.Table.{Table, judge_lent}
use Rattle.tablerules.specs.Good.{Good}
use Rattle.tablerules.proofs.GoodLaws.{judged_front, judged_good}
use Rattle.reading.specs.Reading.{read_corrected}
use Rattle.reading.proofs.CorrectedLaws.{corrected_good}
use Rattle.setup.specs.Setup.{grid_by, judge_by}
use Rattle.extractrules.specs.Start.{judge_marked, setup_with}
use Rattle.extractrules.specs.Extraction.{Result, outcome_marked, outcome_for, atc_record, row_record}
use Rattle.extractrules.proofs.MarkedLaws.{for_is}
use Rattle.promises.specs.Demand.{ResultDemand3}
use Rattle.promises.specs.Seven.{NotSeven, NoReductions}
use Rattle.promises.specs.Stopped.{BorderStopped, Unmarked}
use Rattle.theorems.proofs.Demand3.{accepted_demand_3}
use Rattle.theorems.proofs.Seven.{Other, not_seven, asked_outcome, lent_not_7, front_reductions}
use Rattle.theorems.proofs.Stopped.{accepted_stopped, accepted_unmarked}
use Rattle.theorems.proofs.ToldLaws.{Says, Told, told_passed, told_then, told_unless, told_first, told_need}
use Rattle.result.specs.Records.{atc_at, margin_at, records_text}
use Rattle.result.specs.Refusal.{refusal_text}
use Rattle.answer.specs.Result.{result_text, result_text_for, answer_with}

-- ---- demand 3
-- what was read is a table, and what is printed is the text of a result for which demand 3 and E7 hold
pub record TextDemand3 (marked : ℕ → Bool) (read : Judged Table) (answered : List ℕ) : Type 0 where
  pub table : Table
  pub result : Result
  pub is : read ≡ Ok table
  pub printed : answered ≡ result_text result
  pub outcome : outcome_marked marked table ≡ Ok result
  pub demand : ResultDemand3 table marked result
  pub stopped : (b : ℕ) → b < table.header.borders → marked b ≡ true → BorderStopped table marked result b
  pub unmarked : (b : ℕ) → b < table.header.borders → marked b ≡ false → Unmarked result b

-- the text of a table that was read and accepted
module _ (all : Bool) (marks : List ℕ) (read : Judged Table) (good : (t : Table) → read ≡ Ok t → Good t) (r : Result) (e : then read (outcome_for all marks) ≡ Ok r) where
  result-demand-3 : (answered : List ℕ) → answered ≡ result_text r → TextDemand3 (may_rise all marks) read answered
  result-demand-3 answered printed =
      let a = then_passed read (outcome_for all marks) r e in
      let marked = may_rise all marks in
      let o = for_is all marks a.it r a.second in
      record {
        table = a.it;
        result = r;
        is = a.first;
        printed = printed;
        outcome = o;
        demand = accepted_demand_3 marked a.it r (good a.it a.first) o;
        stopped = accepted_stopped marked a.it r o;
        unmarked = accepted_unmarked marked a.it r o;
      }

-- every text and sheet that is answered with results: an E line is the only other answer
pub answer_demand_3 : (all : Bool) (marks text sheet : List ℕ) → (at (answer_with all marks text sheet) 0 ≡ code "E" → ⊥)
    → TextDemand3 (may_rise all marks) (read_corrected text sheet) (answer_with all marks text sheet)
unfolding answer_with either refusal_text line_text
answer_demand_3 all marks text sheet = go (then (read_corrected text sheet) (outcome_for all marks)) refl
  where
    go : (j : Judged Result) → then (read_corrected text sheet) (outcome_for all marks) ≡ j → (at (either j result_text refusal_text) 0 ≡ code "E" → ⊥)
        → TextDemand3 (may_rise all marks) (read_corrected text sheet) (answer_with all marks text sheet)
    go (Err w) q h = absurd (h refl)
    go (Ok r) q h = result-demand-3 all marks (read_corrected text sheet) (corrected_good text sheet) r q _ (either_passed result_text refusal_text q)

-- demand 3 of every text that `result_text` and `result_text_marked` leave of lent tables: of the bytes that they say they wrote
text_taken : (j : Judged (List ℕ)) (out : List ℕ) (n : ℕ) → (text_left j out).answer ≡ Ok n → j ≡ Ok (take n (text_left j out).out)
unfolding text_left
text_taken j out n e =
    let p = answer_passed (then j (λ text. need (length text) (length out) (Ok text))) _ _ (λ (l : TextLeft). l.answer) n (λ w. refl) e in
    let w = then_passed j _ p.0 p.1 in
    let written = ap (λ (l : TextLeft). take n l.out) (either_passed _ _ p.1) ∙ take_at p.0 _ n (passed_is _ _ p.2) in
    w.first ∙ (need_passed p.0 _ _ _ w.second).1 ∙ ap Ok (sym written)

pub result_text_demand_3 : (all : Bool) (marks : List ℕ) (given : Table) (out : List ℕ) (n : ℕ) → let left = result_text_for all marks given out in
    left.answer ≡ Ok n → TextDemand3 (may_rise all marks) (judge_lent given) (take n left.out)
unfolding result_text_for
result_text_demand_3 all marks given out n e =
    let text = take n (result_text_for all marks given out).out in
    let t = then_passed (judge_lent given) _ text (text_taken _ out n e) in
    let r = then_passed (outcome_for all marks t.it) _ text t.second in
    result-demand-3 all marks (judge_lent given) (judged_good given) r.it (then_next _ t.first ∙ r.first) text (sym (passed_is _ _ r.second))

-- ---- no refusal 7
-- `result_text` and `result_text_marked` tell a refusal as it is
pub result_text_not_7 : (all : Bool) (marks : List ℕ) (given : Table) (out : List ℕ) → NoReductions given → NotSeven (result_text_for all marks given out).answer
unfolding result_text_for text_left either
result_text_not_7 all marks given out none-taken =
    go (then (then (judge_lent given) (λ t. then (outcome_for all marks t) (λ r. Ok (result_text r)))) (λ text. need (length text) (length out) (Ok text)))
    (told_then _ _
    (told_then (judge_lent given) _ (lent_not_7 given)
    (λ t e.
    told_then (outcome_for all marks t) _ (asked_outcome all marks t (subst NoReductions (sym (judged_front given t e)) (front_reductions given none-taken))) (λ r q. told_passed _)))
    (λ text e. told_need _ _ _ (λ q. omega arith) (told_passed _)))
  where
    go : (j : Judged (List ℕ)) → Told Other j
        → NotSeven (either {B = TextLeft} j (λ text. record { answer = Ok (length text); out = over text out }) (λ w. record { answer = Err w; out = out })).answer
    go (Ok text) n = tt
    go (Err w) n = n.says

-- `answer`, `answer_marked` and `answer_corrected` print a refusal.
-- The outcome of a table is refused by 5, 6, 7 or 13 alone
abbrev pub Late : ℕ → Type 0
Late n = (n ≡ 5) ⊎ ((n ≡ 6) ⊎ ((n ≡ 7) ⊎ (n ≡ 13)))

pub outcome_late : (all : Bool) (marks : List ℕ) (t : Table) → Told Late (outcome_for all marks t)
unfolding outcome_for outcome_marked judge_by grid_by setup_with judge_marks
outcome_late all marks t = go all
  where
    marked-late : Told Late (outcome_marked (may_rise all marks) t)
    marked-late =
        told_then (judge_marked (may_rise all marks) t) _
        (told_unless _ _ _ (inl refl) (told_first _ _ _ _ (λ b. inr (inl refl)) (told_first _ _ _ _ (λ i. inr (inr (inl refl))) (told_passed _))))
        (λ m e. told_passed _)

    go : (asked : Bool) → Told Late (judge_asked asked t.header.borders marks (outcome_marked (may_rise all marks) t))
    go true = marked-late
    go false = told_unless _ _ _ (inr (inr (inr refl))) (told_first _ _ _ _ (λ k. inr (inr (inr refl))) marked-late)

-- a result text does not begin with E
result_letter : (r : Result) → at (result_text r) 0 ≡ code "E" → ⊥
unfolding result_text records_text lines_text line_text columns_text head_text index_text
result_letter r =
    let atcs = table r.header.borders (atc_record r) in
    let lefts = table r.header.rows (row_record r) in
    go atcs lefts (length atcs) (length lefts) (decimal r.outcome.rounds ∷ [])
  where
    go : (atcs lefts : List (List ℤ)) (borders rows : ℕ) (fields : List (List ℕ)) → at (lines_text borders 0 (atc_at atcs) ++ lines_text rows 0 (margin_at lefts) ++ line_text (code "R") fields) 0 ≡ code "E" → ⊥
    go atcs lefts (suc borders) rows fields e = let z : ◌≡◌ {A = ℕ} 65 69 = e in omega arith
    go atcs lefts zero (suc rows) fields e = let z : ◌≡◌ {A = ℕ} 77 69 = e in omega arith
    go atcs lefts zero zero fields e = let z : ◌≡◌ {A = ℕ} 82 69 = e in omega arith

pub answer_not_7 : (all : Bool) (marks text sheet : List ℕ) (t : Table) → read_corrected text sheet ≡ Ok t → NoReductions t
    → at (answer_with all marks text sheet) 0 ≡ code "E" → at (answer_with all marks text sheet) 2 ≡ code "7" → ⊥
unfolding answer_with either refusal_text line_text fields_text decimal text_of
answer_not_7 all marks text sheet t read none-taken e k =
    go (outcome_for all marks t) (outcome_late all marks t).says (not_seven _ (asked_outcome all marks t none-taken)) (byte 0 ∙ e) (byte 2 ∙ k)
  where
    byte : (i : ℕ) → at (either (outcome_for all marks t) result_text refusal_text) i ≡ at (answer_with all marks text sheet) i
    byte i = ap (λ (j : Judged Result). at (either j result_text refusal_text) i) (sym (then_next (outcome_for all marks) read))

    -- an E line's third byte is its number's first digit
    digit : (w : Refusal) (n : ℕ) → number_of w ≡ n → at (refusal_text w) 2 ≡ at (decimal n ++ fields_text (decimal (place_of w) ∷ decimal (byte_of w) ∷ [])) 0
    digit w n q = ap (λ (m : ℕ). at (decimal m ++ fields_text (decimal (place_of w) ∷ decimal (byte_of w) ∷ [])) 0) q

    go : (o : Judged Result) → Says Late o → NotSeven o → at (either o result_text refusal_text) 0 ≡ code "E" → at (either o result_text refusal_text) 2 ≡ code "7" → ⊥
    go (Ok r) late n e k = result_letter r e
    go (Err w) (inl five) n e k = let z : ◌≡◌ {A = ℕ} 53 55 = sym (digit w 5 five) ∙ k in omega arith
    go (Err w) (inr (inl six)) n e k = let z : ◌≡◌ {A = ℕ} 54 55 = sym (digit w 6 six) ∙ k in omega arith
    go (Err w) (inr (inr (inl seven))) n e k = n seven
    go (Err w) (inr (inr (inr thirteen))) n e k = let z : ◌≡◌ {A = ℕ} 49 55 = sym (digit w 13 thirteen) ∙ k in omega arith
