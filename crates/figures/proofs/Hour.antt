-- The hour that is checked whole (01), as one theorem, by computation.
use Rattle.std.specs.Prelude.{Ok}
use mathlib.Core.Path.{refl}
use mathlib.Core.List.{[], ◌∷◌}
use Prim.Native.Nat.{◌*◌}
use Rattle.refusals.specs.Refusals.{either}
use Rattle.reading.specs.Reading.{read_text}
use Rattle.writing.specs.Writing.{table_text}
use Rattle.extractrules.specs.Start.{every}
use Rattle.extractrules.specs.Extraction.{outcome_of, n_of, l_of}
use Rattle.answer.specs.Result.{answer_text}
use Rattle.numbers.specs.Computed.{◌is◌, Hold}
use Rattle.figures.specs.Computing.{computing}
use Rattle.figures.specs.Hour.{hour_text, hour_result, hour_table}

pub hour : Hold (
    -- from text to text, byte for byte
    answer_text hour_text is hour_result
    -- the text read, and written again
    ∷ read_text hour_text is Ok hour_table
    ∷ table_text hour_table is hour_text
    -- N = 2, L = 22, bound 88
    ∷ n_of every hour_table is 2
    ∷ l_of every hour_table is 22
    ∷ (2 * n_of every hour_table * l_of every hour_table) is 88
    -- border 0 ends at 2,599,999 kW
    ∷ either (outcome_of hour_table) (λ r. r.outcome.state.x) (λ w. []) is (2599999 ∷ 1800000 ∷ [])
    ∷ [])
unfolding computing
hour = refl
