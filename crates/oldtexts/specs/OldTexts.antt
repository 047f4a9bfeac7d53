-- Reading by any limit of borders (02, E8: "Raise borders from 40 to 64. Old texts stay valid and mean the same."). The limit stands in the judgement of the H
-- line alone: in its range, and in which of its bytes is to blame. At today's limit this is `read_text` (proofs/OldTexts: `read-now`), so that nothing of it can
-- differ from how texts are read but the limit.
use Rattle.std.specs.Prelude.{Bool, cond, List, ℕ, ltb, ℤ, length, Err}
use Prim.Native.Char.{code}
use Rattle.limits.specs.Limits.{bytes_most}
use Rattle.refusals.specs.Refusals.{Judged, then, either, too_long}
use Rattle.types.specs.declared.Header.{Header}
use Rattle.types.specs.LineColumns.{header_columns, default_columns}
use Rattle.types.specs.Ranges.{all_true, header_tests_by, profiled}
use Rattle.text.specs.Fields.{tab}
use Rattle.text.specs.Line.{line_at, after, Line}
use Rattle.columns.specs.ColumnLine.{judged}
use Rattle.columns.specs.declared.Head.TheVariants.{Lettered}
use Rattle.columns.specs.Optional.{optional_line}
use Rattle.blame.specs.RangeBlame.{range_byte}
use Rattle.sections.specs.Section.{lines_at, with_lines}
use Rattle.tablerules.specs.Table.{Table, not_twice, zone_line_no}
use Rattle.lines.specs.Lines.{header_of, header_bad, zone_line}
use Rattle.rowlines.specs.Rows.{as_given}
use Rattle.reading.specs.Reading.{with_header, intraday_at, allocated_from}
use Rattle.extractrules.specs.Extraction.{outcome_for}
use Rattle.result.specs.Refusal.{refusal_text}
use Rattle.answer.specs.Result.{result_text}

-- the most borders before E8
abbrev pub borders_before : ℕ
borders_before = 40

-- a header in range (types: `header_fits`)
abbrev pub fits_by : (limit : ℕ) → Header → Bool
fits_by limit h = all_true (header_tests_by limit h)

-- the byte to blame of one out of range (lines: `header_out`)
abbrev pub out_by : (limit : ℕ) → (line : List ℕ) → (zs : List ℤ) → ℕ
out_by limit line zs = range_byte tab (header_tests_by limit (header_of zs)) 1 line

-- the H line
abbrev pub header_by : (limit : ℕ) → (line : List ℕ) → Line Header
header_by limit line = judged (λ zs. fits_by limit (header_of zs)) header_of (header_bad line) (out_by limit line) (optional_line tab (Lettered (code "H")) header_columns default_columns line)

-- the lines of a text, and the text
abbrev pub lines_within : (limit : ℕ) → (text : List ℕ) → Judged Table
lines_within limit text =
    with_header (header_by limit (line_at text 0)) (λ counts.
    with_lines (lines_at zone_line zone_line_no counts.zones text (after text 0) 0) (λ nets p.
    allocated_from as_given text (profiled counts (intraday_at text p)) nets p))

unfoldable pub read_within : (limit : ℕ) → (text : List ℕ) → Judged Table
read_within limit text = cond (ltb bytes_most (length text)) (Err too_long) (then (lines_within limit text) not_twice)

-- the answer to it, of every border or with marks
unfoldable pub answer_within : (limit : ℕ) → (all : Bool) → (marks text : List ℕ) → List ℕ
answer_within limit all marks text = either (then (read_within limit text) (outcome_for all marks)) result_text refusal_text
