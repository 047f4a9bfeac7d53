-- What the answer to a text tells (01, "Result text"): a result, or the refusal whose line E it is. `told_of`, `told_for` and `told_with` are what contracts cite.
use Rattle.std.specs.Prelude.{Bool, List, ℕ, Err, Ok}
use Rattle.refusals.specs.Refusals.{Judged, then, Ruling}
use Rattle.reading.specs.Reading.{read_text, read_corrected}
use Rattle.extractrules.specs.Extraction.{outcome_for}

-- of what was judged, whether it passed or why it did not
abbrev pub told_of : {A : Type 0} → Judged A → Ruling
told_of (Ok a) = (Ok tt)
told_of (Err w) = Err w

-- what the answer to a table's text tells (`answer_for`), and with a correction sheet (`answer_with`)
unfoldable pub told_for : (all : Bool) → (marks text : List ℕ) → Ruling
told_for all marks text = told_of (then (read_text text) (outcome_for all marks))

unfoldable pub told_with : (all : Bool) → (marks text sheet : List ℕ) → Ruling
told_with all marks text sheet = told_of (then (read_corrected text sheet) (outcome_for all marks))
