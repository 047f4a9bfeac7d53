-- The laws behind `extract` and `extract_marked` on lent tables (`specs/Extraction.antt`'s `judge_extract` and `extract_for`): which judgement decides, and what an answer with rounds comes from.
-- `outcome-roomy` and `extract-roomy` are for a caller that lends room for the most p, borders and rows. No contract cites this file.
use Rattle.std.specs.Prelude.{Err, Ok, Some}
use mathlib.Core.Path.{◌≡◌, refl, sym, ap, subst, ◌∙◌}
use mathlib.Core.Bool.{Bool}
use mathlib.Core.List.{List}
use Prim.Native.Nat.{ℕ, ◌*◌, ◌≤◌}
use native.Mathlib.Nat.{mul-le-mul}
use native.Mathlib.Omega.{arith}
use lib.IntN.{ℤ}
use lib.ListN.{length, take}
use Rattle.limits.specs.Limits.{borders_most, rows_most}
use Rattle.refusals.specs.declared.Refusal.{Refusal}
use Rattle.refusals.specs.Answers.{said_judgement}
use Rattle.refusals.specs.Refusals.{Judged, then, either, need, Ruling}
use Rattle.refusals.proofs.RefusalLaws.{passed_is, answer_passed, then_passed, then_next, then_refused, either_passed, either_refused, need_passed, need_enough}
use Rattle.types.specs.declared.Header.{Header}
use Rattle.types.proofs.RangeLaws.{header_in_lem}
use Rattle.marks.specs.Marks.{judge_asked, may_rise, flags_of, flagged}
use Rattle.marks.proofs.MarkLaws.{flags_tell}
use Rattle.tablerules.specs.Table.{Table, front, judge_shape, judge_records, judge_for, judge_lent}
use Rattle.tablerules.specs.Good.{Good}
use Rattle.tablerules.proofs.JudgeLaws.{shape_front}
use Rattle.tablerules.proofs.GoodLaws.{judged_front, judged_good, told_judged}
use Rattle.extractrules.specs.Extraction.{Result, result_marked, outcome_marked, outcome_for, judge_extract, ExtractLeft, leaves, result_room, result_stored, extract_for}
use Rattle.extractrules.specs.Inner.{outcome_left}
use Rattle.extractrules.proofs.AcceptedLaws.{accepted}
use Rattle.extractrules.proofs.MarkedLaws.{outcome_agree, for_refused, for_passed, for_is}

-- ---- judging lent tables with room for p is judging them, where there is room
extract_judged : (given t : Table) (n : ℕ) → judge_extract given n ≡ Ok t → (judge_lent given ≡ Ok t) × (given.header.rows * given.header.borders ≤ n)
unfolding judge_for
extract_judged given t n e =
    let w = then_passed (judge_shape given) _ t e in
    let k = need_passed t _ _ _ w.second in
    (then_next _ w.first ∙ k.1, subst (λ (v : Table). v.header.rows * v.header.borders ≤ n) (shape_front given w.it w.first).0 k.0)

pub judged_lent : (given t : Table) (n : ℕ) → judge_extract given n ≡ Ok t → judge_lent given ≡ Ok t
judged_lent given t n e = (extract_judged given t n e).0

pub judged_roomy : (given : Table) (n : ℕ) → rows_most * borders_most ≤ n → judge_extract given n ≡ judge_lent given
unfolding judge_for then
judged_roomy given n enough = go (judge_shape given) refl
  where
    go : (j : Judged Table) → judge_shape given ≡ j → then j (λ t. need (t.header.rows * t.header.borders) n (judge_records t)) ≡ then j judge_records
    go (Err w) e = refl
    go (Ok t) e =
        let s = shape_front given t e in
        let h = header_in_lem (front given).header s.1.header in
        need_enough _ _ _ (subst (λ (u : Table). u.header.rows * u.header.borders ≤ n) (sym s.0) (omega (arith, mul-le-mul h.rows_most_lem h.borders_most_lem)))

pub front_room : (given : Table) (n : ℕ) (r : Ruling) → said_judgement r (front given) ≡ judge_extract given n → r ≡ (Ok tt) → given.header.rows * given.header.borders ≤ n
front_room given n r said e = (extract_judged given (front given) n (told_judged (Some n) given r said e)).1

-- ---- which judgement decides, of lent tables
module _ (all : Bool) (marks : List ℕ) (given : Table) (ps : List ℕ) (r : Ruling) (said : said_judgement r (front given) ≡ judge_extract given (length ps)) where
  pub lent_refused : (atcs lefts : List (List ℤ)) (w : Refusal) → r ≡ Err w → leaves (Err w) ps atcs lefts ≡ extract_for all marks given ps atcs lefts
  unfolding extract_for
  lent_refused atcs lefts w e = sym (either_refused _ _ (then_refused _ (sym said ∙ ap (λ (j : Ruling). said_judgement j (front given)) e)))

  module _ (e : r ≡ (Ok tt)) where
    pub lent_outcome : (atcs lefts : List (List ℤ)) → outcome_left (outcome_for all marks (front given)) ps atcs lefts ≡ extract_for all marks given ps atcs lefts
    unfolding extract_for outcome_left
    lent_outcome atcs lefts =
        ap (λ (j : Judged Result). either j (result_stored ps atcs lefts) (λ w. leaves (Err w) ps atcs lefts))
        (sym (then_next _ (told_judged (Some (length ps)) given r said e)))

-- ---- which judgement decides, of a table as it was asked for: the marks, and then the outcome of the borders whose flags are set
module _ (all : Bool) (marks : List ℕ) (t : Table) (ps : List ℕ) (atcs lefts : List (List ℤ)) (j : Ruling) (told : said_judgement j marks ≡ judge_asked all t.header.borders marks (Ok marks)) where
  pub marks_refused : (w : Refusal) → j ≡ Err w → leaves (Err w) ps atcs lefts ≡ outcome_left (outcome_for all marks t) ps atcs lefts
  unfolding outcome_left
  marks_refused w q = sym (either_refused _ _ (then_refused _ (for_refused all marks t j told w q)))

  pub marks_passed : j ≡ (Ok tt) → t.header.borders ≤ borders_most → {flags : List ℕ} → flags ≡ flags_of borders_most all marks
      → outcome_left (outcome_marked (flagged (take t.header.borders flags)) t) ps atcs lefts ≡ outcome_left (outcome_for all marks t) ps atcs lefts
  marks_passed q few {flags} f =
      ap (λ (o : Judged Result). outcome_left o ps atcs lefts)
      (outcome_agree (flagged (take t.header.borders flags)) (may_rise all marks) t (flags_tell all marks t.header.borders f few)
      ∙ sym (for_passed all marks t j told q))

-- ---- with room for the most p, borders and rows, the answer and the records are those of the outcome
module _ (all : Bool) (marks : List ℕ) (ps : List ℕ) (atcs lefts : List (List ℤ)) (hb : borders_most ≤ length atcs) (hr : rows_most ≤ length lefts) where
  enough : (t : Table) → Good t → (o : Judged Result) → outcome_for all marks t ≡ o → then o (result_room atcs lefts) ≡ o
  unfolding then result_marked
  enough t good (Ok r) e =
      let h = header_in_lem t.header good.exact.header in
      let k : t.header ≡ r.header = ap (λ (v : Result). v.header) (accepted (may_rise all marks) t r (for_is all marks t r e)).is in
      need_enough _ _ _ (omega (arith, h.borders_most_lem, ap (λ (v : Header). v.borders) k)) ∙ need_enough _ _ _ (omega (arith, h.rows_most_lem, ap (λ (v : Header). v.rows) k))
  enough t good (Err w) e = refl

  pub outcome_roomy : (t : Table) → Good t → outcome_left (outcome_for all marks t) ps atcs lefts ≡ either (outcome_for all marks t) (result_stored ps atcs lefts) (λ w. leaves (Err w) ps atcs lefts)
  unfolding outcome_left
  outcome_roomy t good = ap (λ (j : Judged Result). either j (result_stored ps atcs lefts) (λ w. leaves (Err w) ps atcs lefts)) (enough t good (outcome_for all marks t) refl)

pub extract_roomy : (all : Bool) (marks : List ℕ) (given : Table) (ps : List ℕ) (atcs lefts : List (List ℤ)) → rows_most * borders_most ≤ length ps → borders_most ≤ length atcs → rows_most ≤ length lefts
    → extract_for all marks given ps atcs lefts ≡ either (then (judge_lent given) (outcome_for all marks)) (result_stored ps atcs lefts) (λ w. leaves (Err w) ps atcs lefts)
unfolding extract_for then
extract_roomy all marks given ps atcs lefts hp hb hr =
    ap (λ (j : Judged Result). either j (result_stored ps atcs lefts) (λ w. leaves (Err w) ps atcs lefts))
    (ap (λ (j : Judged Table). then j (λ t. then (outcome_for all marks t) (result_room atcs lefts))) (judged_roomy given (length ps) hp) ∙ go (judge_lent given) refl)
  where
    go : (j : Judged Table) → judge_lent given ≡ j → then j (λ t. then (outcome_for all marks t) (result_room atcs lefts)) ≡ then j (outcome_for all marks)
    go (Ok t) e = enough all marks ps atcs lefts hb hr t (judged_good given t e) (outcome_for all marks t) refl
    go (Err w) e = refl

-- ---- an answer with rounds: the front of the tables was accepted, and its result is what is left
pub record AcceptedFor (all : Bool) (marks : List ℕ) (given : Table) (ps : List ℕ) (atcs lefts : List (List ℤ)) (k : ℕ) : Type 0 where
  pub judged : judge_lent given ≡ Ok (front given)
  pub outcome : outcome_marked (may_rise all marks) (front given) ≡ Ok (result_marked (may_rise all marks) (front given))
  pub rounds : (result_marked (may_rise all marks) (front given)).outcome.rounds ≡ k
  pub left : extract_for all marks given ps atcs lefts ≡ result_stored ps atcs lefts (result_marked (may_rise all marks) (front given))

pub accepted_for : (all : Bool) (marks : List ℕ) (given : Table) (ps : List ℕ) (atcs lefts : List (List ℤ)) (k : ℕ) → (extract_for all marks given ps atcs lefts).answer ≡ Ok k
    → AcceptedFor all marks given ps atcs lefts k
unfolding extract_for
accepted_for all marks given ps atcs lefts k e =
    let j = then (judge_extract given (length ps)) (λ t. then (outcome_for all marks t) (result_room atcs lefts)) in
    let p = answer_passed j (result_stored ps atcs lefts) (λ w. leaves (Err w) ps atcs lefts) (λ (l : ExtractLeft). l.answer) k (λ w. refl) e in
    let r = p.0 in
    let a = then_passed (judge_extract given (length ps)) _ r p.1 in
    let o = then_passed (outcome_for all marks a.it) (result_room atcs lefts) r a.second in
    let b = need_passed r _ _ _ o.second in
    let c = need_passed r _ _ _ b.1 in
    let judged : judge_lent given ≡ Ok a.it = (extract_judged given a.it (length ps) a.first).0 in
    let whole : a.it ≡ front given = judged_front given a.it judged in
    let found : outcome_marked (may_rise all marks) (front given) ≡ Ok r = for_is all marks (front given) r (ap (outcome_for all marks) (sym whole) ∙ o.first ∙ c.1) in
    let is : result_marked (may_rise all marks) (front given) ≡ r = (accepted (may_rise all marks) (front given) r found).is in
    record {
      judged = judged ∙ ap Ok whole;
      outcome = found ∙ ap Ok (sym is);
      rounds = ap (λ (v : Result). v.outcome.rounds) is ∙ passed_is _ _ p.2;
      left = either_passed _ _ p.1 ∙ ap (result_stored ps atcs lefts) (sym is);
    }
