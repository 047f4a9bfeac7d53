-- What an outcome is printed as (01, "Result text"). Promises of the inner functions are stated through these.
use Rattle.std.specs.Prelude.{Bool, cond, List, ℕ, Err, Ok}
use Rattle.refusals.specs.Refusals.{Judged, either}
use Rattle.extractrules.specs.Extraction.{Result}
use Rattle.result.specs.Records.{records_most}
use Rattle.result.specs.Refusal.{refusal_text}
use Rattle.answer.specs.Result.{result_text}

-- the result text, or the E line
unfoldable pub printed : Judged Result → List ℕ
printed outcome = either outcome result_text refusal_text

-- the text that a call gives: the result text; a refusal is written as the E line, or told
unfoldable pub outcome_said : (line : Bool) → Judged Result → Judged (List ℕ)
outcome_said line outcome = either outcome (λ r. Ok (result_text r)) (λ w. cond line (Ok (refusal_text w)) (Err w))

-- bytes that take every answer: no E line is longer than a line of records
abbrev pub answer_most : ℕ
answer_most = records_most
