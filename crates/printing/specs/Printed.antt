-- What a program prints for a table's text and a correction sheet (01, "Result text"; 02, E2).
-- Without one the sheet is empty, and an empty sheet changes nothing. What a buffer holds that is printed stands in output (specs/Buffer).
use Rattle.std.specs.Prelude.{◌≡◌, Bool, cond, List, ℕ, ◌≤◌, ltb, ℤ, length, Ok}
use Rattle.limits.specs.Limits.{bytes_most}
use Rattle.refusals.specs.Refusals.{Judged, then, too_long}
use Rattle.types.specs.declared.Header.{Header}
use Rattle.text.specs.Left.{text_left, text_said}
use Rattle.tablerules.specs.Table.{Table, lent}
use Rattle.reading.specs.Reading.{read_corrected}
use Rattle.writing.specs.Writing.{table_text}
use Rattle.rowsheet.specs.RowSheet as rowsheet
use Rattle.rowsheet.specs.RowSheet.{read_sheet, judge_rows, sheet_of}
use Rattle.partrules.specs.Parts.{records_of}
use Rattle.partstext.specs.PartsText.{parts_text}
use Rattle.boundrules.specs.Bound.{bound_asked}
use Rattle.boundtext.specs.BoundText.{bound_text_of}
use Rattle.claimline.specs.ClaimText.{claims_in}
use Rattle.claimtext.specs.Published.{published_of}
use Rattle.extractrules.specs.Extraction.{outcome_for}
use Rattle.result.specs.Refusal.{refusal_text}
use Rattle.answer.specs.Result.{result_text}
use Rattle.output.specs.Buffer.{told_text}
use Rattle.command.specs.declared.asked.Word.{Word}
use Rattle.command.specs.declared.asked.Word.TheVariants.{Answer, Rewrite, Claims, Bound, Margins, Rows, Filled}

-- what a call answers and leaves in a buffer that was `before`, where no text that it may have to write is too long for it
pub record Said (r : Judged ℕ) (said : Judged (List ℕ)) (before after : List ℕ) : Type 0 where
  pub left : text_said r after ≡ text_left said before
  pub fits : (text : List ℕ) → said ≡ Ok text → length text ≤ length before

-- the rows of a table, as the planners' sheet has them (02, E11)
abbrev pub rows_in : Table → rowsheet.Rows
rows_in t = record { rows = t.rows; factors = t.factors }

-- the sheet of lent rows as `write_rows` writes it
abbrev pub sheet_said : Header → (c : List (List ℤ)) → (f : List ℤ) → Judged (List ℕ)
sheet_said h c f = then (judge_rows h c f) (λ r. Ok (sheet_of h.zones r))

-- a table with other rows in place of its own
abbrev pub with_rows : Table → rowsheet.Rows → Table
with_rows t r = lent t.header t.nets t.allocated t.borders r.rows r.factors

-- a table with the rows of a sheet in place of its own: the sheet is judged (1, 2, 3), and the table is written
unfoldable pub filled_by : (sheet : List ℕ) → Table → Judged (List ℕ)
filled_by sheet t = then (read_sheet t.header sheet) (λ r. Ok (table_text (with_rows t r)))

-- what a word says of a table. The marks say which borders may rise, or `all` that every one may (02, E13). A file goes with some words: the list of claims (02, E10),
-- the sheet of rows (02, E11)
unfoldable pub said_of : Word → (all : Bool) → (marks file : List ℕ) → Table → Judged (List ℕ)
said_of Answer all marks file t = then (outcome_for all marks t) (λ r. Ok (result_text r))
said_of Rewrite all marks file t = Ok (table_text t)
said_of Claims all marks file t = published_of t (claims_in file)
said_of Bound all marks file t = bound_text_of (bound_asked all marks t)
said_of Margins all marks file t = Ok (parts_text (records_of t))
said_of Rows all marks file t = Ok (sheet_of t.header.zones (rows_in t))
said_of Filled all marks file t = filled_by file t

-- what is printed for a word, of the table of a text
unfoldable pub word_said : Word → (all : Bool) → (marks file text sheet : List ℕ) → Judged (List ℕ)
word_said word all marks file text sheet = then (read_corrected text sheet) (said_of word all marks file)

-- what a program prints for a word: 1 of any text is judged before all else
unfoldable pub word_text : Word → (all : Bool) → (marks file text sheet : List ℕ) → List ℕ
word_text word all marks file text sheet = cond (ltb bytes_most (length file)) (refusal_text too_long) (told_text (word_said word all marks file text sheet))
