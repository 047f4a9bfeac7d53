-- The answer to an hour's table consists of whole lines, at most 265 of them: an A line for each border, an M line for each row, and the R line; or one E line.
-- No contract cites this file.
use Rattle.std.specs.Prelude.{Err, Ok}
use mathlib.Core.Path.{◌≡◌, refl, sym, ap, subst, ◌∙◌}
use mathlib.Core.Bool.{Bool, true}
use mathlib.Core.List.{List, [], ◌∷◌, ◌++◌}
use Prim.Native.Char.{code}
use Prim.Native.Nat.{ℕ, ◌≤◌}
use native.Mathlib.Omega.{arith}
use lib.IntN.{ℤ}
use lib.ListN.{length, get_or}
use Rattle.limits.specs.Limits.{borders_most, rows_most}
use Rattle.numbers.specs.Below.{table}
use Rattle.numbers.proofs.BelowLaws.{table_long}
use Rattle.refusals.specs.declared.Refusal.{Refusal}
use Rattle.refusals.specs.Refusals.{Judged, then, either, number_of, place_of, byte_of}
use Rattle.refusals.proofs.RefusalLaws.{passed_is, then_passed, either_passed, either_refused}
use Rattle.types.specs.declared.Header.{Header}
use Rattle.types.proofs.RangeLaws.{header_in_lem}
use Rattle.marks.specs.Marks.{judge_asked, may_rise}
use Rattle.marks.proofs.MarkLaws.{asked_then}
use Rattle.text.specs.Fields.{tab}
use Rattle.text.specs.Written.{decimal}
use Rattle.text.proofs.PutLaws.{tabbed, line_tabbed}
use Rattle.text.proofs.WrittenLaws.{decimal_no_feed}
use Rattle.columns.specs.declared.Head.TheVariants.{Indexed}
use Rattle.columns.proofs.ColumnTrip.{line_one}
use Rattle.tablerules.specs.Table.{Table}
use Rattle.tablerules.specs.Good.{Good}
use Rattle.extractrules.specs.Start.{judge_marked}
use Rattle.extractrules.specs.Extraction.{Result, result_marked, outcome_marked, outcome_for, atc_record, row_record}
use Rattle.reading.specs.Reading.{read_text}
use Rattle.reading.proofs.EmptySheet.{empty_sheet}
use Rattle.reading.proofs.CorrectedLaws.{corrected_good}
use Rattle.result.specs.Records.{atc_columns, margin_columns, atc_at, margin_at, rounds_line, atc_lines, margin_lines, records_text}
use Rattle.result.specs.Refusal.{refusal_text}
use Rattle.answer.specs.Result.{result_text, answer_for}
use Rattle.daylines.specs.Labelled.{lines_begun, Ended}
use Rattle.daylines.specs.Room.{lines_most}
use Rattle.daylines.proofs.LabelledLaws.{ended_append, begun_append, no_feed_append, OneLine, one_of, one_ended, one_begun, lines_ended, lines_begun_lem}

-- ---- each line is one
atc_one : (atcs : List (List ℤ)) (b : ℕ) → OneLine (atc_at atcs b)
atc_one atcs b = one_of (atc_at atcs b) (λ rest. line_one tab refl (Indexed (code "A") b) atc_columns (get_or atcs b []) rest (omega arith) refl)

margin_one : (lefts : List (List ℤ)) (i : ℕ) → OneLine (margin_at lefts i)
margin_one lefts i = one_of (margin_at lefts i) (λ rest. line_one tab refl (Indexed (code "M") i) margin_columns (get_or lefts i []) rest (omega arith) refl)

rounds_one : (rounds : ℕ) → OneLine (rounds_line rounds)
unfolding tabbed
rounds_one rounds =
    let fields = decimal rounds ∷ [] in
    record { front = code "R" ∷ tabbed fields; plain = (refl, (refl, no_feed_append (decimal rounds) [] (decimal_no_feed rounds) tt)); is = line_tabbed (code "R") fields }

refusal_one : (w : Refusal) → OneLine (refusal_text w)
unfolding refusal_text tabbed
refusal_one w =
    let number = decimal (number_of w) in
    let place = decimal (place_of w) in
    let byte = decimal (byte_of w) in
    let last = no_feed_append byte [] (decimal_no_feed (byte_of w)) tt in
    let more = no_feed_append place (tab ∷ (byte ++ [])) (decimal_no_feed (place_of w)) (refl, last) in
    record {
      front = code "E" ∷ tabbed (number ∷ place ∷ byte ∷ []);
      plain = (refl, (refl, no_feed_append number (tab ∷ (place ++ (tab ∷ (byte ++ [])))) (decimal_no_feed (number_of w)) (refl, more)));
      is = line_tabbed (code "E") (number ∷ place ∷ byte ∷ []);
    }

-- ---- the text of records
-- whole lines, no more than the most
pub record Lines (text : List ℕ) : Type 0 where
  pub ended : Ended true text
  pub few : lines_begun true text ≤ lines_most

one_lines : {line : List ℕ} → OneLine line → Lines line
one_lines o = record { ended = one_ended o; few = omega (arith, one_begun o) }

records_lines : (atcs lefts : List (List ℤ)) (rounds : ℕ) → length atcs ≤ borders_most → length lefts ≤ rows_most → Lines (records_text atcs lefts rounds)
unfolding records_text
records_lines atcs lefts rounds b r =
    let borders = lines_ended (atc_at atcs) (atc_one atcs) (length atcs) 0 in
    let rows = lines_ended (margin_at lefts) (margin_one lefts) (length lefts) 0 in
    let both = ended_append true (atc_lines atcs) (margin_lines lefts) borders rows in
    let last = rounds_one rounds in
    record {
      ended = ended_append true (atc_lines atcs ++ margin_lines lefts) (rounds_line rounds) both (one_ended last);
      few = omega (
        arith,
        begun_append true (atc_lines atcs ++ margin_lines lefts) (rounds_line rounds) both,
        begun_append true (atc_lines atcs) (margin_lines lefts) borders,
        lines_begun_lem (atc_at atcs) (atc_one atcs) (length atcs) 0,
        lines_begun_lem (margin_at lefts) (margin_one lefts) (length lefts) 0,
        one_begun last,
      );
    }

-- ---- the result of a good table
result_header : (all : Bool) (marks : List ℕ) (t : Table) (r : Result) → outcome_for all marks t ≡ Ok r → r.header ≡ t.header
unfolding outcome_for outcome_marked result_marked
result_header all marks t r e =
    let a = then_passed (judge_asked all t.header.borders marks (Ok marks)) _ r (asked_then all t.header.borders marks marks (outcome_marked (may_rise all marks) t) ∙ e) in
    let b = then_passed (judge_marked (may_rise all marks) t) _ r a.second in
    ap (λ (x : Result). x.header) (sym (passed_is _ _ b.second))

result_lines : (t : Table) → Good t → (r : Result) → r.header ≡ t.header → Lines (result_text r)
unfolding result_text
result_lines t good r same =
    let h = header_in_lem t.header good.exact.header in
    records_lines (table r.header.borders (atc_record r)) (table r.header.rows (row_record r)) r.outcome.rounds
    (omega (arith, table_long r.header.borders (atc_record r), ap (λ (x : Header). x.borders) same, h.borders_most_lem))
    (omega (arith, table_long r.header.rows (row_record r), ap (λ (x : Header). x.rows) same, h.rows_most_lem))

-- ---- the answer to a text
pub answer_lines : (all : Bool) (marks text : List ℕ) → Lines (answer_for all marks text)
unfolding answer_for
answer_lines all marks text = go (then (read_text text) (outcome_for all marks)) refl
  where
    go : (j : Judged Result) → then (read_text text) (outcome_for all marks) ≡ j → Lines (either j result_text refusal_text)
    go (Ok r) e =
        let d = then_passed (read_text text) (outcome_for all marks) r e in
        subst (λ (s : List ℕ). Lines s) (sym (either_passed _ _ refl))
        (result_lines d.it (corrected_good text [] d.it (empty_sheet text ∙ d.first)) r (result_header all marks d.it r d.second))
    go (Err w) e = subst (λ (s : List ℕ). Lines s) (sym (either_refused _ _ refl)) (one_lines (refusal_one w))
