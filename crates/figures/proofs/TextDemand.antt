-- Demand 3 and E7 of the text that answers the worked hour (01), of every border and with border 1 marked: what they say of it in numbers, and texts that they reject.
use Rattle.std.specs.Prelude.{None, Some}
use mathlib.Core.Path.{◌≡◌, refl, sym, ap, subst, ◌∙◌}
use mathlib.Core.Bool.{Bool, true, false, false≢true}
use mathlib.Core.List.{List, [], ◌∷◌, ◌++◌, append_assoc, append-nil}
use Prim.Native.Char.{code}
use Prim.Native.Nat.{ℕ, zero, suc, ◌*◌, ◌≤◌, ◌<◌}
use native.Mathlib.Nat.{div-mul-le_self}
use native.Mathlib.Omega.{arith}
use lib.Dec.{lit<}
use lib.IntN.{ℤ, pos}
use lib.ListN.{length, get_or, drop}
use lib.Signed.{lt_z_yes, clash_ℤ}
use Rattle.numbers.specs.Below.{at, table}
use Rattle.numbers.proofs.BelowLaws.{table_long, table_get}
use Rattle.refusals.proofs.RefusalLaws.{passed_is}
use Rattle.marks.specs.Marks.{may_rise}
use Rattle.text.specs.Fields.{tab, digits, value}
use Rattle.text.specs.Shown.{shown}
use Rattle.text.specs.Written.{text_of, decimal, decimal_ℤ, line_text, lines_text}
use Rattle.columns.specs.ColumnText.{field_text, fields_ended, index_text, head_text, columns_text}
use Rattle.text.proofs.NumberTrip.{under_pow, digits_app, decimal_digits, text_value}
use Rattle.tablerules.specs.Table.{Table}
use Rattle.reading.specs.Reading.{read_corrected}
use Rattle.extractrules.specs.Extraction.{Result, n_of, l_of, atc_of, last_of, stop_of, atc_record, row_record}
use Rattle.promises.specs.Demand.{ResultDemand3}
use Rattle.promises.specs.Stopped.{StoppedBy}
use Rattle.result.specs.Records.{atc_at, margin_at, records_text}
use Rattle.answer.specs.Result.{result_text}
use Rattle.theorems.proofs.TextDemand.{TextDemand3, answer_demand_3}
use Rattle.figures.specs.Computing.{computing}
use Rattle.figures.specs.Hour.{hour_text, hour_result, marked_result, hour_table}
use Rattle.figures.proofs.Demand.{hour_end, both}

-- a text that is said to answer the hour, of every border, and with border 1 marked
abbrev Answers : (answered : List ℕ) → Type 0
Answers answered = TextDemand3 (may_rise true []) (read_corrected hour_text []) answered

abbrev AnswersMarked : (answered : List ℕ) → Type 0
AnswersMarked answered = TextDemand3 (may_rise false (1 ∷ [])) (read_corrected hour_text []) answered

-- the hour's result with another ATC of border 0: one MW more, and one that row 0 cannot carry
abbrev one_more : List ℕ
one_more = shown "A 0 2600 21 0/" ++ drop 14 hour_result

abbrev beyond : List ℕ
beyond = shown "A 0 3501 21 0/" ++ drop 14 hour_result

pub record HourAnswered : Type 0 where
  pub answered : Answers hour_result
  pub answered_marked : AnswersMarked marked_result
  -- whatever text answers it: it is the hour that was read, rounds are at most 88, and row 0 stopped border 0
  pub read : (text : List ℕ) (d : Answers text) → d.table ≡ hour_table
  pub rounds : (text : List ℕ) (d : Answers text) → d.result.outcome.rounds ≤ 88
  pub stop : (text : List ℕ) (d : Answers text) → stop_of d.result 0 ≡ Some 0
  -- with border 1 marked border 0 has no last round and no row
  pub unmarked_last : (text : List ℕ) (d : AnswersMarked text) → last_of d.result 0 ≡ 0
  pub unmarked_stop : (text : List ℕ) (d : AnswersMarked text) → stop_of d.result 0 ≡ None
  -- 2,600 MW are not what the hour's result is printed as, and no result of the hour is printed with 3,501 MW
  pub not_more : (d : Answers one_more) → d.result ≡ hour_end → ⊥
  pub not_beyond : Answers beyond → ⊥

hour_read : (marked : ℕ → Bool) (text : List ℕ) (d : TextDemand3 marked (read_corrected hour_text []) text) → d.table ≡ hour_table
unfolding computing
hour_read marked text d = passed_is _ _ (sym d.is)

-- a number before a tab, read off a text
number_cut : (n : ℕ) (after atcs lefts rest text : List ℕ) → text ≡ (((decimal n ++ (tab ∷ after)) ++ atcs) ++ lefts) ++ rest → value 0 (digits text) ≡ n
unfolding decimal
number_cut n after atcs lefts rest text e =
    ap (λ (s : List ℕ). value 0 (digits s))
    (e ∙ append_assoc ((decimal n ++ (tab ∷ after)) ++ atcs) lefts rest ∙ append_assoc (decimal n ++ (tab ∷ after)) atcs (lefts ++ rest)
    ∙ append_assoc (decimal n) (tab ∷ after) (atcs ++ (lefts ++ rest)))
    ∙ ap (value 0) (digits_app (decimal n) (tab ∷ (after ++ (atcs ++ (lefts ++ rest)))) (decimal_digits n) ∙ append-nil (decimal n))
    ∙ text_value (suc n) n (under_pow n)

zero_text : decimal 0 ≡ 48 ∷ []
unfolding decimal text_of
zero_text = refl

-- border 0's ATC in the text
atc_said : (r : Result) → beyond ≡ result_text r → 3501 ≡ atc_of r 0
unfolding result_text records_text lines_text line_text decimal_ℤ field_text fields_ended index_text head_text columns_text atc_of atc_record
atc_said r e =
    let atcs = table r.header.borders (atc_record r) in
    let lefts = table r.header.rows (row_record r) in
    go atcs lefts (length atcs) (length lefts) (decimal r.outcome.rounds ∷ [])
    (λ h. table_get r.header.borders (atc_record r) 0 [] (omega (arith, table_long r.header.borders (atc_record r)))) e
  where
    go : (atcs lefts : List (List ℤ)) (borders rows : ℕ) (fields : List (List ℕ)) → (0 < borders → get_or atcs 0 [] ≡ atc_record r 0)
        → beyond ≡ lines_text borders 0 (atc_at atcs) ++ lines_text rows 0 (margin_at lefts) ++ line_text (code "R") fields → 3501 ≡ atc_of r 0
    go atcs lefts zero zero fields q e = let z : ◌≡◌ {A = ℕ} 65 82 = ap (λ (s : List ℕ). at s 0) e in absurd (omega arith)
    go atcs lefts zero (suc rows) fields q e = let z : ◌≡◌ {A = ℕ} 65 77 = ap (λ (s : List ℕ). at s 0) e in absurd (omega arith)
    go atcs lefts (suc borders) rows fields q e = number_cut (atc_of r 0) _ _ _ _ (drop 4 beyond) (ap (drop 4) (rw (q (omega arith), zero_text) at e))

-- the row that stopped border 0: no other kept row loads it
stopped_0 : (r : Result) (i : ℕ) → StoppedBy hour_table (may_rise true []) r 0 i → i ≡ 0
unfolding computing
stopped_0 r zero s = refl
stopped_0 r (suc zero) s = let h : 0 < 0 = s.loads in absurd (omega arith)
stopped_0 r (suc (suc zero)) s = absurd (false≢true s.takes)
stopped_0 r (suc (suc (suc zero))) s = absurd (false≢true s.takes)
stopped_0 r (suc (suc (suc (suc i)))) s = let h : suc (suc (suc (suc i))) < 4 = s.row in absurd (omega arith)

two_borders : (t : Table) → t ≡ hour_table → 0 < t.header.borders
two_borders t e = subst (λ (u : Table). 0 < u.header.borders) (sym e) (lit< tt)

hour_stop : (text : List ℕ) (d : Answers text) → stop_of d.result 0 ≡ Some 0
hour_stop text d =
    let e = hour_read _ text d in
    let s = d.stopped 0 (two_borders _ e) refl in
    s.found ∙ ap Some (stopped_0 d.result s.row (subst (λ (t : Table). StoppedBy t (may_rise true []) d.result 0 s.row) e s.stopped))

hour_rounds : (text : List ℕ) (d : Answers text) → d.result.outcome.rounds ≤ 88
unfolding computing
hour_rounds text d =
    subst (λ (t : Table). d.result.outcome.rounds ≤ 2 * n_of (may_rise true []) t * l_of (may_rise true []) t) (hour_read _ text d) d.demand.few

over_row_0 : (r : Result) → ResultDemand3 hour_table (may_rise true []) r → 3501 ≡ atc_of r 0 → ⊥
unfolding computing
over_row_0 r d e =
    let x = r.outcome.state.x in
    let h : 3501 * 1000 ≤ at x 0 = subst (λ (v : ℕ). v * 1000 ≤ at x 0) (sym e) (div-mul-le_self (at x 0) 1000) in
    clash_ℤ (lt_z_yes {a = pos 70000000000} {b = pos 70020000000} tt) (d.within refl (3501000 ∷ 0 ∷ []) (both _ (at x) h (omega arith)) 0 (lit< tt) refl)

pub hour_answered : HourAnswered
unfolding computing
hour_answered =
    record {
      answered = answer_demand_3 true [] hour_text [] (λ e. let z : ◌≡◌ {A = ℕ} 65 69 = e in omega arith);
      answered_marked = answer_demand_3 false (1 ∷ []) hour_text [] (λ e. let z : ◌≡◌ {A = ℕ} 65 69 = e in omega arith);
      read = hour_read _;
      rounds = hour_rounds;
      stop = hour_stop;
      unmarked_last = λ text d. (d.unmarked 0 (two_borders _ (hour_read _ text d)) refl).last;
      unmarked_stop = λ text d. (d.unmarked 0 (two_borders _ (hour_read _ text d)) refl).stop;
      not_more = λ d e. let z : ◌≡◌ {A = ℕ} 54 53 = ap (λ (s : List ℕ). at s 5) (d.printed ∙ ap result_text e) in omega arith;
      not_beyond = λ d. over_row_0 d.result (subst (λ (t : Table). ResultDemand3 t (may_rise true []) d.result) (hour_read _ beyond d) d.demand) (atc_said d.result d.printed);
    }
