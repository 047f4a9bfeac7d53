-- What is heard of each text that is printed (output: specs/Heard): a refusal with its number, place and byte; and a result, a table, a corner sheet, a published list,
-- the bound, margins, and rows as a sheet as an answer.
use mathlib.Core.Path.{◌≡◌, refl, sym, subst, ◌∙◌}
use mathlib.Core.Bool.{Bool, true, false, cond}
use mathlib.Core.List.{List, [], ◌∷◌, ◌++◌, append_assoc, append-nil}
use Prim.Native.Nat.{ℕ, zero, suc, ◌+◌, ◌^◌, ◌<◌}
use native.Mathlib.Omega.{arith}
use lib.Dec.{leb, ltb}
use lib.IntN.{ℤ}
use lib.ListN.{length, get_or, drop}
use borrow.Author.Tests.{ltb-true}
use Rattle.numbers.specs.Below.{table}
use Rattle.numbers.proofs.TestLaws.{and_both}
use Rattle.types.specs.Ranges.{at_ℤ}
use Rattle.text.specs.Fields.{tab, feed, digits}
use Rattle.text.specs.Written.{decimal, fields_text, line_text, lines_text}
use Rattle.text.proofs.NumberTrip.{number_written, number_rest, digits_cons, decimal_digits, decimal_some}
use Rattle.types.specs.LineColumns.{Column}
use Rattle.columns.specs.declared.Head.TheVariants.{Bare}
use Rattle.columns.specs.ColumnText.{index_text, head_text, columns_text, fields_ended}
use Rattle.tablerules.specs.Table.{Table, factors_at}
use Rattle.writing.specs.Writing.{table_text}
use Rattle.lines.specs.RowKinds.{semicolon}
use Rattle.lines.specs.declared.row.RowKind.TheVariants as row_kind
use Rattle.layout.specs.Layout.{row_text_in}
use Rattle.rowsheet.specs.RowSheet as rowsheet
use Rattle.rowsheet.specs.RowSheet.{sheet_of}
use Rattle.cornerrules.specs.Corners.{flows_of}
use Rattle.cornertext.specs.CornerText.{corner_line_at, corners_text, sheet_text}
use Rattle.staterules.specs.Standings.{Standings}
use Rattle.claimtext.specs.Published.{row_line, published_line, published_text}
use Rattle.tightrules.specs.declared.RoundsMost.{RoundsMost}
use Rattle.boundtext.specs.BoundText.{bound_text}
use Rattle.partstext.specs.PartsText.{parts_line_at, parts_text}
use Rattle.extractrules.specs.Extraction.{Result, atc_record, row_record}
use Rattle.result.specs.Records.{atc_at, margin_at, rounds_line, records_text}
use Rattle.result.specs.Refusal.{refusal_line}
use Rattle.answer.specs.Result.{result_text}
use Rattle.output.specs.declared.Ended.TheVariants.{Answered, Refused}
use Rattle.output.specs.Heard.{letter_e, refusal_in, heard_of}
use Rattle.output.proofs.HeardLaws.{heard_refusal, heard_other}
use Rattle.printing.specs.Printed.{with_rows}

-- a line of three numbers after its letter
refusal_in_written : (line : List ℕ) (number place byte : ℕ) → drop 2 line ≡ decimal number ++ (tab ∷ (decimal place ++ (tab ∷ (decimal byte ++ (feed ∷ [])))))
    → number < 10 ^ 10 → place < 10 ^ 10 → byte < 10 ^ 10 → refusal_in line ≡ Refused number place byte
unfolding refusal_in
refusal_in_written line number place byte here n p b =
    let last = decimal byte ++ (feed ∷ []) in
    let at = 2 + length (decimal number) + 1 in
    let placed = number_rest line 2 tab number (decimal place ++ (tab ∷ last)) here in
    rw (
      number_written line 2 tab number (decimal place ++ (tab ∷ last)) here n refl,
      number_written line at tab place last placed p refl,
      number_written line (at + length (decimal place) + 1) feed byte [] (number_rest line at tab place last placed) b refl,
    )

-- a refusal is heard with its number, place and byte
pub refusal_heard : (number place byte : ℕ) → number < 10 ^ 10 → place < 10 ^ 10 → byte < 10 ^ 10 → heard_of (refusal_line number place byte) ≡ Refused number place byte
unfolding line_text fields_text
refusal_heard number place byte n p b =
    let line = refusal_line number place byte in
    sym (heard_refusal line refl) ∙ refusal_in_written line number place byte refl n p b

-- a text that does not begin with E
abbrev Other : List ℕ → Type 0
Other text = get_or text 0 0 ≡ letter_e → ⊥

lines_other : (left i : ℕ) (line : ℕ → List ℕ) (rest : List ℕ) → ((k : ℕ) (more : List ℕ) → Other (line k ++ more)) → Other rest → Other (lines_text left i line ++ rest)
unfolding lines_text
lines_other zero i line rest each last = last
lines_other (suc left) i line rest each last = subst Other (sym (append_assoc (line i) (lines_text left (i + 1) line) rest)) (each i (lines_text left (i + 1) line ++ rest))

-- a result's records are heard as an answer: their text begins with A, M or R
records_heard : (atcs lefts : List (List ℤ)) (k : ℕ) → heard_of (records_text atcs lefts k) ≡ Answered
unfolding records_text line_text columns_text head_text index_text
records_heard atcs lefts k =
    let borders = lines_text (length atcs) 0 (atc_at atcs) in
    let rows = lines_text (length lefts) 0 (margin_at lefts) in
    let other = lines_other (length atcs) 0 (atc_at atcs) (rows ++ rounds_line k) (λ b more e. omega arith) (lines_other (length lefts) 0 (margin_at lefts) (rounds_line k) (λ i more e. omega arith) (λ e. omega arith)) in
    sym (heard_other (records_text atcs lefts k) (subst Other (sym (append_assoc borders rows (rounds_line k))) other))

-- a result is heard as an answer
pub result_heard : (r : Result) → heard_of (result_text r) ≡ Answered
unfolding result_text
result_heard r = records_heard (table r.header.borders (atc_record r)) (table r.header.rows (row_record r)) r.outcome.rounds

-- a table is heard as an answer: it begins with H
pub table_heard : (t : Table) → heard_of (table_text t) ≡ Answered
unfolding table_text columns_text head_text
table_heard t = sym (heard_other (table_text t) (λ e. omega arith))

-- a row's corner sheet is heard as an answer: it begins with K
pub sheet_heard : (t : Table) (row : ℕ) → heard_of (sheet_text t row) ≡ Answered
unfolding corners_text columns_text head_text index_text
sheet_heard t row =
    let flows = flows_of (factors_at t row) t.borders in
    let lines = lines_text (length flows) 0 (corner_line_at row flows) in
    sym (heard_other (sheet_text t row) (subst Other (append-nil lines) (lines_other (length flows) 0 (corner_line_at row flows) [] (λ k more e. omega arith) (λ e. omega arith))))

-- a published list (02, E10), which may be empty, is heard as an answer: each of its lines begins with D
lines_beside : (left i : ℕ) (line : ℕ → List ℕ) (rest : List ℕ) → ((k : ℕ) (more : List ℕ) → Other more → Other (line k ++ more)) → Other rest → Other (lines_text left i line ++ rest)
unfolding lines_text
lines_beside zero i line rest each last = last
lines_beside (suc left) i line rest each last =
    subst Other (sym (append_assoc (line i) (lines_text left (i + 1) line) rest)) (each i (lines_text left (i + 1) line ++ rest) (lines_beside left (i + 1) line rest each last))

published_other : (b : Bool) (row : ℕ) (ram : ℤ) (more : List ℕ) → Other more → Other (cond b (row_line row ram) [] ++ more)
unfolding columns_text head_text index_text
published_other true row ram more o = λ e. omega arith
published_other false row ram more o = o

pub published_heard : (m : Standings) (listed : ℕ → Bool) → heard_of (published_text m listed) ≡ Answered
unfolding published_text published_line
published_heard m listed =
    let lines = lines_text (length m.states) 0 (published_line m listed) in
    sym (heard_other lines (subst Other (append-nil lines) (lines_beside (length m.states) 0 (published_line m listed) [] (λ k more o. published_other (listed k) k (at_ℤ m.rams k) more o) (λ e. omega arith))))

-- the hour's own bound is heard as an answer: it begins with U
pub bound_heard : (m : RoundsMost) → heard_of (bound_text m) ≡ Answered
unfolding line_text
bound_heard m = sym (heard_other (bound_text m) (λ e. omega arith))

-- what margins are made of is heard as an answer: it begins with V
pub margins_heard : (records : List (List ℤ)) → heard_of (parts_text records) ≡ Answered
unfolding columns_text head_text
margins_heard records =
    let lines = lines_text (length records) 0 (parts_line_at records) in
    sym (heard_other lines (subst Other (append-nil lines) (lines_other (length records) 0 (parts_line_at records) [] (λ k more e. omega arith) (λ e. omega arith))))

-- the rows as a sheet (02, E11) are heard as an answer: each of its lines begins with a digit
decimal_other : (n : ℕ) (more : List ℕ) → Other (decimal n ++ more)
decimal_other n more = go (decimal n) (decimal_digits n) (decimal_some n)
  where
    go : (s : List ℕ) → digits s ≡ s → 0 < length s → Other (s ++ more)
    go [] d l = absurd (omega arith)
    go (b ∷ s) d l = λ e. omega (arith, ltb-true b 58 (and_both (leb 48 b) (ltb b 58) (digits_cons b s d).0).1)

line_other : (columns : List Column) (i : ℕ) (zs : List ℤ) (more : List ℕ) → Other (columns_text semicolon (Bare i) columns zs ++ more)
unfolding columns_text head_text index_text
line_other columns i zs more =
    let rest = fields_ended semicolon feed columns zs in
    subst Other (sym (append_assoc (decimal i ++ (semicolon ∷ [])) rest more ∙ append_assoc (decimal i) (semicolon ∷ []) (rest ++ more))) (decimal_other i _)

pub rows_heard : (zones : ℕ) (r : rowsheet.Rows) → heard_of (sheet_of zones r) ≡ Answered
unfolding sheet_of
rows_heard zones r =
    let lines = lines_text (length r.rows) 0 (row_text_in row_kind.Sheet zones r.rows r.factors) in
    sym (heard_other lines (subst Other (append-nil lines) (lines_other (length r.rows) 0 (row_text_in row_kind.Sheet zones r.rows r.factors) [] (λ k more. line_other _ k _ more) (λ e. omega arith))))

-- a table with the rows of a sheet is heard as an answer, as every table is
pub filled_heard : (t : Table) (r : rowsheet.Rows) → heard_of (table_text (with_rows t r)) ≡ Answered
filled_heard t r = table_heard (with_rows t r)
