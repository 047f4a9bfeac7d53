-- The figures of an hour, all from the text of the hour's own table. `hour_of` and `found_for` are what contracts cite.
use Rattle.std.specs.Prelude.{Bool, List, ℕ, Ok}
use Rattle.numbers.specs.Below.{table}
use Rattle.refusals.specs.Refusals.{Judged, then, either}
use Rattle.tablerules.specs.Table.{Table}
use Rattle.extractrules.specs.Extraction.{Result, outcome_for, atc_of}
use Rattle.reading.specs.Reading.{read_text}
use Rattle.hourfigures.specs.Figures.{Found, Figures, refused_hour, figures_by}

-- what an extraction tells of an hour
abbrev pub found_of : Result → Found
found_of r = record { rounds = r.outcome.rounds; atcs = table r.header.borders (atc_of r) }

abbrev pub found_for : (all : Bool) → (marks : List ℕ) → Table → Judged Found
found_for all marks t = then (outcome_for all marks t) (λ r. Ok (found_of r))

-- the figures of an hour, as it was asked for, from the text of its table
unfoldable pub hour_of : (all : Bool) → (marks text : List ℕ) → Figures
hour_of all marks text = either (read_text text) (λ t. figures_by t.header t.borders (found_for all marks t)) refused_hour
