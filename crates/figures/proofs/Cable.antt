-- The hour with a cable (02, E3), as one theorem, by computation; and who is refused for its hubs.
use Rattle.std.specs.Prelude.{Err, Ok}
use mathlib.Core.Path.{refl}
use mathlib.Core.List.{List, [], ◌∷◌, ◌++◌}
use Prim.Native.Nat.{ℕ}
use Prim.Native.String.{String}
use lib.IntN.{pos}
use Rattle.numbers.specs.Ints.{minus}
use Rattle.refusals.specs.Refusals.{either, out_of_range}
use Rattle.marginrules.specs.Margin.{s_of}
use Rattle.reading.specs.Reading.{read_text}
use Rattle.writing.specs.Writing.{table_text}
use Rattle.extractrules.specs.Start.{every}
use Rattle.extractrules.specs.Extraction.{outcome_of, n_of, l_of}
use Rattle.answer.specs.Result.{answer_text}
use Rattle.numbers.specs.Computed.{◌is◌, Hold}
use Rattle.figures.specs.Computing.{computing}
use Rattle.text.specs.Shown.{shown}
use Rattle.figures.specs.Small.{with_border, lent_hubs}
use Rattle.figures.specs.Cable.{cable_text, cable_result, cable_table}

-- the answer to the hour's H and Z lines with these B and C lines
abbrev borders : String → List ℕ
borders s = answer_text (shown "H 4 2 3/Z 0 0/Z 1 0/Z 2 0/Z 3 0/" ++ shown s)

pub cable : Hold (
    -- from text to text, byte for byte
    answer_text cable_text is cable_result
    -- the text read, and written again with its hubs
    ∷ read_text cable_text is Ok cable_table
    ∷ table_text cable_table is cable_text
    -- S of row 0, and N = 2, L = 23
    ∷ s_of (pos 30000 ∷ pos 10000 ∷ pos 24000 ∷ pos 12000 ∷ []) cable_table.borders is 1800000000
    ∷ n_of every cable_table is 2
    ∷ l_of every cable_table is 23
    -- border 1 ends at 3,790,999 kW
    ∷ either (outcome_of cable_table) (λ r. r.outcome.state.x) (λ w. []) is (1560000 ∷ 3790999 ∷ [])
    -- 2: a B line has four fields after the letter, or six
    ∷ with_border "B 0 0 1 100 0/" is shown "E 2 4 0/"
    ∷ with_border "B 0 0 1 100 0 1 0/" is shown "E 2 4 0/"
    ∷ with_border "B 0 0 1 100 -1 -1/" is shown "E 2 4 13/"
    -- 3: a hub that does not exist, two equal hubs; a hub may be an end of the border
    ∷ with_border "B 0 0 1 100 2 1/" is shown "E 3 4 13/"
    ∷ with_border "B 0 0 1 100 0 2/" is shown "E 3 4 15/"
    ∷ with_border "B 0 0 1 100 1 1/" is shown "E 3 4 15/"
    ∷ borders "B 0 0 1 100 1 0/B 1 1 0 100/" is shown "E 2 8 0/"
    -- 3 of a lent border: one hub alone, and a number below -1
    ∷ lent_hubs (pos 0) (minus 1) is Err (out_of_range 4)
    ∷ lent_hubs (minus 1) (pos 0) is Err (out_of_range 4)
    ∷ lent_hubs (minus 2) (minus 2) is Err (out_of_range 4)
    -- 4 compares from, to and hubs, and the order of the hubs counts
    ∷ borders "B 0 0 1 100 2 3/B 1 0 1 50 2 3/C 0 1 0 0 0 0 0 0 0 0 0 0/C 1 1 0 0 0 0 0 0 0 0 0 0/C 2 1 0 0 0 0 0 0 0 0 0 0/" is shown "E 4 1 0/"
    ∷ borders "B 0 0 1 100 2 3/B 1 0 1 50 3 2/C 0 1 0 0 0 0 0 0 0 0 0 0/C 1 1 0 0 0 0 0 0 0 0 0 0/C 2 1 0 0 0 0 0 0 0 0 0 0/" is shown "E 5 0 0/"
    ∷ [])
unfolding computing
cable = refl
