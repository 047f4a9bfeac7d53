-- The result as text (01, "Result text"), from a table's bytes to the printed bytes, and what the open calls `result_text` and `answer` leave, of every
-- border or with marks (02, E13).
-- The lines stand in result: A and M lines in specs/Records.antt, the E line in specs/Refusal.antt.
use Rattle.std.specs.Prelude.{Bool, true, false, List, [], ℕ, Ok}
use Rattle.numbers.specs.Below.{table}
use Rattle.refusals.specs.Refusals.{then, either}
use Rattle.text.specs.Left.{TextLeft, text_left}
use Rattle.tablerules.specs.Table.{Table, judge_lent}
use Rattle.reading.specs.Reading.{read_text, read_corrected}
use Rattle.extractrules.specs.Extraction.{Result, outcome_for, atc_record, row_record}
use Rattle.result.specs.Records.{records_text}
use Rattle.result.specs.Refusal.{refusal_text}

-- an A line for each border, an M line for each row, and R, rounds: the text of the records that `extract` fills in
unfoldable pub result_text : Result → List ℕ
result_text r = records_text (table r.header.borders (atc_record r)) (table r.header.rows (row_record r)) r.outcome.rounds

-- the answer to a table's text as it was asked for, with a list of marks or for every border
unfoldable pub answer_for : (all : Bool) → (marks text : List ℕ) → List ℕ
answer_for all marks text = either (then (read_text text) (outcome_for all marks)) result_text refusal_text

-- the answer to a table's text with a correction sheet (02, E2): the answer to the merged table
unfoldable pub answer_with : (all : Bool) → (marks text sheet : List ℕ) → List ℕ
answer_with all marks text sheet = either (then (read_corrected text sheet) (outcome_for all marks)) result_text refusal_text

-- the program: the table on standard input, and this on standard output
unfoldable pub answer_text : (text : List ℕ) → List ℕ
answer_text text = answer_for true [] text

-- the open calls `result_text` and `result_text_marked`
unfoldable pub result_text_for : (all : Bool) → (marks : List ℕ) → (lent : Table) → (out : List ℕ) → TextLeft
result_text_for all marks lent out = text_left (then (judge_lent lent) (λ t. then (outcome_for all marks t) (λ r. Ok (result_text r)))) out

unfoldable pub result_text_left : (lent : Table) → (out : List ℕ) → TextLeft
result_text_left lent out = result_text_for true [] lent out

unfoldable pub result_text_marked_left : (lent : Table) → (marks out : List ℕ) → TextLeft
result_text_marked_left lent marks out = result_text_for false marks lent out

-- the open calls `answer` and `answer_marked`
unfoldable pub answer_for_left : (all : Bool) → (marks text out : List ℕ) → TextLeft
answer_for_left all marks text out = text_left (Ok (answer_for all marks text)) out

unfoldable pub answer_left : (text out : List ℕ) → TextLeft
answer_left text out = text_left (Ok (answer_text text)) out

unfoldable pub answer_marked_left : (text marks out : List ℕ) → TextLeft
answer_marked_left text marks out = answer_for_left false marks text out

-- the open call `answer_corrected`; and, for every border or with marks, the answer to a text with a sheet
unfoldable pub answer_with_left : (all : Bool) → (marks text sheet out : List ℕ) → TextLeft
answer_with_left all marks text sheet out = text_left (Ok (answer_with all marks text sheet)) out

unfoldable pub answer_corrected_left : (text sheet out : List ℕ) → TextLeft
answer_corrected_left text sheet out = answer_with_left true [] text sheet out
