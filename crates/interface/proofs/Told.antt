-- What an answer in text for C tells of the bytes beside it (coded: specs/Coded, `answered_coded`): where told_number is 0 they are a result, and else the line E of
-- told_number, told_place and told_byte. So told_number is 0 of no refusal.
use Rattle.std.specs.Prelude.{Err, Ok}
use mathlib.Core.Path.{◌≡◌, refl, sym, ap, subst, ◌∙◌}
use mathlib.Core.Bool.{Bool, true, false, cond}
use mathlib.Core.List.{List, [], ◌∷◌}
use mathlib.Core.Logic.{⊎_elim, inl, inr}
use Prim.Native.Nat.{ℕ, zero, suc, ◌+◌, ◌≤◌, ◌<◌}
use native.Mathlib.Omega.{arith}
use lib.Dec.{ltb, lit<}
use lib.IntN.{ℤ}
use lib.ListN.{length, take}
use lib.Seq.{take_at}
use Rattle.numbers.specs.Below.{over}
use Rattle.numbers.proofs.BelowLaws.{le_or_lt}
use Rattle.limits.specs.Limits.{bytes_most}
use Rattle.refusals.specs.declared.Refusal.{Refusal}
use Rattle.refusals.specs.Refusals.{Judged, then, either, unless, number_of, too_long, wrong_form, out_of_range_at, Ruling}
use Rattle.text.specs.Left.{TextLeft, text_left}
use Rattle.text.specs.Line.{line_at, after, Line, refusal_of}
use Rattle.text.specs.declared.LineFault.{LineFault}
use Rattle.text.specs.declared.LineFault.TheVariants.{Form, Range}
use Rattle.text.proofs.LeftLaws.{text_left_lem, text_short}
use Rattle.types.specs.declared.Header.{Header}
use Rattle.types.specs.Ranges.{allocated_items, profiled}
use Rattle.lines.specs.Lines.{RowLine, header_line, zone_line, allocated_line, border_line}
use Rattle.lines.specs.SaidRow.{line_by}
use Rattle.lines.specs.declared.row.RowKind.{RowKind}
use Rattle.sections.specs.Section.{Section, read, fault, more, on_line, lines_at, with_lines}
use Rattle.rowlines.specs.Rows.{values_of, factors_of, as_given, picked_row}
use Rattle.corrections.specs.Corrections.{Piece, sheet_kind, pieces, handed_by, judge_from, judge_corrections, on_correction, due_index}
use Rattle.tablerules.specs.Table.{Table, balanced, not_twice, header_line_no, zone_line_no, allocated_line_no, last_allocated_line_no, border_line_no, row_line_no, past_line_no}
use Rattle.reading.specs.Reading.{with_header, intraday_at, balance_byte, rows_from, borders_from, allocated_from, lines_by, lines_of, read_text, read_corrected}
use Rattle.extractrules.specs.Extraction.{Result, outcome_for}
use Rattle.result.specs.Refusal.{refusal_line, refusal_text}
use Rattle.answer.specs.Result.{result_text, answer_with, answer_with_left}
use Rattle.answer.specs.Told.{told_of, told_with}
use Rattle.theorems.proofs.ToldLaws.{Told, told_passed, told_then, told_unless, told_first}
use Rattle.theorems.proofs.TextDemand.{Late, outcome_late}
use Rattle.coded.specs.declared.KeravnothAnswered.{KeravnothAnswered}
use Rattle.coded.specs.Coded.{OutCoded, coded_answered, answered_found, answered_coded}

-- ---- no refusal of a text has number 0
abbrev Some : ℕ → Type 0
Some n = 0 < n

told_cond : {A : Type 0} (t : Bool) (w : Refusal) (next : Judged A) → Some (number_of w) → Told Some next → Told Some (cond t (Err w) next)
told_cond true w next h n = record { says = h }
told_cond false w next h n = n

-- a faulty line is refused by 2 or 3
some_fault : (bad : LineFault) (line : ℕ) → Some (number_of (refusal_of bad line))
some_fault (Form byte) line = lit< tt
some_fault (Range byte) line = lit< tt

told_header : {A : Type 0} (l : Line Header) (next : Header → Judged A) → ((h : Header) → Told Some (next h)) → Told Some (with_header l next)
told_header (Ok h) next n = n h
told_header (Err bad) next n = record { says = some_fault bad header_line_no }

-- a section of lines is refused by 2 or 3
abbrev Faults : {A : Type 0} → Section A → Type 0
Faults (read xs next) = Unit {0}
Faults (fault w) = Some (number_of w)

faults_more : {A : Type 0} (a : A) (s : Section A) → Faults s → Faults (more a s)
faults_more a (read xs next) f = tt
faults_more a (fault w) f = f

faults_line : {A : Type 0} (l : Line A) (number : ℕ) (rest : Section A) → Faults rest → Faults (on_line l number rest)
faults_line (Ok a) number rest f = faults_more a rest f
faults_line (Err bad) number rest f = some_fault bad number

faults_lines : {A : Type 0} (judge : List ℕ → ℕ → Line A) (first left : ℕ) (text : List ℕ) (place i : ℕ) → Faults (lines_at judge first left text place i)
unfolding lines_at
faults_lines judge first zero text place i = tt
faults_lines judge first (suc left) text place i = faults_line (judge (line_at text place) i) (first + i) _ (faults_lines judge first left text (after text place) (i + 1))

told_lines : {A B : Type 0} (s : Section A) (next : List A → ℕ → Judged B) → Faults s → ((xs : List A) (n : ℕ) → Told Some (next xs n)) → Told Some (with_lines s next)
told_lines (read xs n) next f t = t xs n
told_lines (fault w) next f t = record { says = f }

module _ (pick : Piece → ℕ → Piece) (text : List ℕ) where
  told-rows : (h : Header) (nets allocated : List ℤ) (borders : List (List ℤ)) (q : ℕ) → Told Some (rows_from pick text h nets allocated borders q)
  told-rows h nets allocated borders q =
      told_lines (lines_at (picked_row h.zones pick) (row_line_no h) h.rows text q 0)
      (λ rows e. cond (ltb e (length text)) (Err (wrong_form (past_line_no h))) (Ok (record { header = h; nets = nets; allocated = allocated; borders = borders; rows = values_of rows; factors = factors_of rows })))
      (faults_lines (picked_row h.zones pick) (row_line_no h) h.rows text q 0) (λ rows e. told_cond (ltb e (length text)) (wrong_form (past_line_no h)) _ (lit< tt) (told_passed _))

  told-borders : (h : Header) (nets allocated : List ℤ) (o : ℕ) → Told Some (borders_from pick text h nets allocated o)
  told-borders h nets allocated o =
      told_lines (lines_at (border_line h.zones) (border_line_no h) h.borders text o 0) (rows_from pick text h nets allocated)
      (faults_lines (border_line h.zones) (border_line_no h) h.borders text o 0) (told-rows h nets allocated)

  told-allocated : (h : Header) (nets : List ℤ) (place : ℕ) → Told Some (allocated_from pick text h nets place)
  told-allocated h nets place =
      let w = out_of_range_at (last_allocated_line_no h) (balance_byte h.zones) in
      told_lines (lines_at allocated_line (allocated_line_no h) (allocated_items h) text place 0) (λ allocated o. unless (balanced allocated) w (borders_from pick text h nets allocated o))
      (faults_lines allocated_line (allocated_line_no h) (allocated_items h) text place 0)
      (λ allocated o. told_unless (balanced allocated) w (borders_from pick text h nets allocated o) (lit< tt) (told-borders h nets allocated o))

  told-table : Told Some (lines_by pick text)
  unfolding lines_by
  told-table =
      let zones : Header → Section ℤ = λ counts. lines_at zone_line zone_line_no counts.zones text (after text 0) 0 in
      let rest : Header → List ℤ → ℕ → Judged Table = λ counts nets place. allocated_from pick text (profiled counts (intraday_at text place)) nets place in
      told_header (header_line (line_at text 0)) (λ counts. with_lines (zones counts) (rest counts)) (λ counts.
      told_lines (zones counts) (rest counts) (faults_lines zone_line zone_line_no counts.zones text (after text 0) 0)
      (λ nets place. told-allocated (profiled counts (intraday_at text place)) nets place))

told_text_lem : (text : List ℕ) → Told Some (read_text text)
unfolding read_text
told_text_lem text =
    told_cond (ltb bytes_most (length text)) too_long (then (lines_of text) not_twice) (lit< tt)
    (told_then (lines_of text) not_twice (told-table as_given text) (λ t e. told_first _ _ _ _ (λ b. lit< tt) (told_passed _)))

-- a correction sheet is refused by 10
told_correction : (l : Line RowLine) (number : ℕ) (rest : Judged (Unit {0})) → Told Some rest → Told Some (on_correction l number rest)
told_correction (Ok c) number rest t = t
told_correction (Err bad) number rest t = record { says = lit< tt }

told_sheet : (kind : RowKind) (zones rows least number : ℕ) (sheet : List (List ℕ)) → Told Some (judge_from kind zones rows least number sheet)
told_sheet kind zones rows least number [] = told_passed tt
told_sheet kind zones rows least number (line ∷ rest) =
    let i = due_index kind rows least line in
    told_correction (line_by kind zones line i) number _ (told_sheet kind zones rows (i + 1) (number + 1) rest)

told_corrected : (text sheet : List ℕ) → Told Some (read_corrected text sheet)
unfolding read_corrected
told_corrected text sheet =
    let judged : Table → Judged (Unit {0}) = λ day. judge_corrections day.header.zones day.header.rows sheet in
    let merged : Table → Judged Table = λ day. then (judged day) (λ _. lines_by (handed_by sheet) text) in
    told_cond (ltb bytes_most (length sheet)) too_long (then (read_text text) merged) (lit< tt)
    (told_then (read_text text) merged (told_text_lem text) (λ day e.
    told_then (judged day) _ (told_sheet (sheet_kind sheet) day.header.zones day.header.rows 0 1 (pieces sheet)) (λ _ _. told-table (handed_by sheet) text)))

-- and the outcome of a table by 5, 6, 7 or 13
late_some : (n : ℕ) → Late n → Some n
late_some n (inl e) = omega (arith, e)
late_some n (inr (inl e)) = omega (arith, e)
late_some n (inr (inr (inl e))) = omega (arith, e)
late_some n (inr (inr (inr e))) = omega (arith, e)

late_told : {A : Type 0} (j : Judged A) → Told Late j → Told Some j
late_told (Ok a) t = told_passed a
late_told (Err w) t = record { says = late_some (number_of w) t.says }

told_answer : (all : Bool) (marks text sheet : List ℕ) → Told Some (then (read_corrected text sheet) (outcome_for all marks))
told_answer all marks text sheet = told_then (read_corrected text sheet) (outcome_for all marks) (told_corrected text sheet) (λ t e. late_told (outcome_for all marks t) (outcome_late all marks t))

-- ---- what is told
-- bytes that are the text of a result
pub record IsResult (text : List ℕ) : Type 0 where
  pub it : Result
  pub is : text ≡ result_text it

pub record Tells (r : KeravnothAnswered) (text : List ℕ) : Type 0 where
  pub result : r.told_number ≡ 0 → IsResult text
  pub line : (r.told_number ≡ 0 → ⊥) → text ≡ refusal_line r.told_number r.told_place r.told_byte

-- where the call itself is not refused, the text was written
written : (answer out : List ℕ) (told : Ruling) → (answered_coded (text_left (Ok answer) out) told).answer.number ≡ 0
    → answered_coded (text_left (Ok answer) out) told ≡ answered_found (coded_answered (Ok (length answer)) told) (over answer out)
written answer out told none =
    ⊎_elim (λ (h : length answer ≤ length out). ap (λ (l : TextLeft). answered_coded l told) (text_left_lem answer out h))
    (λ short. let e : ◌≡◌ {A = ℕ} 8 0 = ap (λ (l : TextLeft). (answered_coded l told).answer.number) (text_short answer out (length answer) refl short) ∙ none in absurd (omega (arith, e)))
    (le_or_lt (length answer) (length out))

abbrev Said : OutCoded KeravnothAnswered ℕ → Type 0
Said left = Tells left.answer (take left.answer.bytes left.out)

-- the bytes that were written
front : (answer out : List ℕ) → take (length answer) (over answer out) ≡ answer
front answer out = take_at answer _ (length answer) refl

-- of every answer to a text, with marks or a sheet or without (`keravnoth_answer`, `keravnoth_answer_marked`, `keravnoth_answer_corrected`)
pub answer_tells : (all : Bool) (marks text sheet out : List ℕ) → let left = answered_coded (answer_with_left all marks text sheet out) (told_with all marks text sheet) in
    left.answer.number ≡ 0 → Tells left.answer (take left.answer.bytes left.out)
unfolding answer_with_left answer_with told_with either refusal_text
answer_tells all marks text sheet out = go (then (read_corrected text sheet) (outcome_for all marks)) (told_answer all marks text sheet)
  where
    go : (j : Judged Result) → Told Some j → let left = answered_coded (text_left (Ok (either j result_text refusal_text)) out) (told_of j) in left.answer.number ≡ 0 → Said left
    go (Ok r) t none =
        subst Said (sym (written (result_text r) out (told_of (Ok r)) none))
        (record { result = λ zero. record { it = r; is = front (result_text r) out }; line = λ some. absurd (some refl) })
    go (Err w) t none =
        subst Said (sym (written (refusal_text w) out (told_of {A = Result} (Err w)) none))
        (record { result = λ zero. absurd (omega (arith, zero, t.says)); line = λ some. front (refusal_text w) out })
