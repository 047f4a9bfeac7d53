-- A correction sheet at noon (02, E2), by computation: a day that it cures, one that it spoils, its refusals, and the merged table written again.
use Rattle.std.specs.Prelude.{Err, Ok}
use mathlib.Core.Path.{refl}
use mathlib.Core.Bool.{true, false}
use mathlib.Core.List.{List, [], ◌∷◌, ◌++◌}
use Prim.Native.Nat.{ℕ}
use Prim.Native.String.{String}
use lib.ListN.{replicate}
use Rattle.refusals.specs.Refusals.{either, wrong_form, wrong_correction, too_short}
use Rattle.reading.specs.Reading.{read_corrected}
use Rattle.writing.specs.Writing.{table_text}
use Rattle.rewriting.specs.Rewriting.{rewrite_corrected_left}
use Rattle.result.specs.Refusal.{refusal_text}
use Rattle.answer.specs.Result.{answer_text, answer_with}
use Rattle.numbers.specs.Computed.{◌is◌, Hold}
use Rattle.figures.specs.Computing.{computing}
use Rattle.text.specs.Shown.{shown}

-- one border with p 20000 and LTA 100 on a row of Fmax 10000: with IVA 1 its starting margin is below 0
abbrev morning : List ℕ
morning = shown "H 2 1 1/Z 0 0/Z 1 0/B 0 0 1 100/C 0 10000 0 0 0 7000 0 1 20000 0/"

abbrev evening : List ℕ
evening = shown "H 2 1 1/Z 0 0/Z 1 0/B 0 0 1 100/C 0 10000 0 0 0 7000 0 0 20000 0/"

abbrev at_noon : (day : List ℕ) → (corrections : String) → List ℕ
at_noon day corrections = answer_with true [] day (shown corrections)

abbrev rewritten : (corrections : String) → List ℕ
rewritten corrections = either (read_corrected morning (shown corrections)) table_text refusal_text

pub noon : Hold (
    answer_text morning is shown "E 7 0 0/"
    -- an empty sheet changes nothing
    ∷ at_noon morning "" is shown "E 7 0 0/"
    -- 5, 6 and 7 are of the merged table alone: a sheet that cures 7, one that causes it, and one that causes 6
    ∷ at_noon morning "C 0 10000 0 0 0 7000 0 0 20000 0/" is shown "A 0 100 0 0/M 0 0 2000000000 0/R 0/"
    ∷ at_noon evening "C 0 10000 0 0 0 7000 0 1 20000 0/" is shown "E 7 0 0/"
    ∷ at_noon evening "C 0 10000 0 0 0 7000 0 0 0 20000/" is shown "E 6 0 0/"
    -- the same rows as the planners' sheet has them
    ∷ at_noon morning "0;10.000;0.000;0.000;0.000;7000;0.000;0.000;0.20000;0.00000/" is shown "A 0 100 0 0/M 0 0 2000000000 0/R 0/"
    ∷ at_noon evening "0;10.000;0.000;0.000;0.000;7000;0.000;0.001;0.20000;0.00000/" is shown "E 7 0 0/"
    -- 10 is told with the sheet's line and the byte, before 13
    ∷ at_noon morning "C 0 10000 0 0 0 7000 0 0 20000 0/C 0 10000 0 0 0 7000 0 0 20000 0/" is shown "E 10 2 3/"
    ∷ at_noon morning "0;10.000;0.000;0.000;0.000;7000;0.000;0.000;0.20000;0.00000/C 0 10000 0 0 0 7000 0 0 20000 0/" is shown "E 10 2 1/"
    ∷ answer_with false [] morning (shown "x") is shown "E 10 1 0/"
    ∷ answer_with false [] morning (shown "C 0 10000 0 0 0 7000 0 0 20000 0/") is shown "E 13 0 0/"
    -- "-" in a sheet's line is written as "-" again
    ∷ rewritten "C 0 9000 0 0 0 - 0 0 20000 0/" is shown "H 2 1 1/Z 0 0/Z 1 0/B 0 0 1 100/C 0 9000 0 0 0 - 0 0 20000 0/"
    -- a row of the planners' sheet is written as a C line, and its "-" as "-"
    ∷ rewritten "0;9.000;0.000;-0.001;0.000;-;0.000;0.000;0.20000;-0.00001/" is shown "H 2 1 1/Z 0 0/Z 1 0/B 0 0 1 100/C 0 9000 0 -1 0 - 0 0 20000 -1/"
    -- the open call `rewrite_corrected`: the merged table in front, the rest as it was; too little room; the sheet's refusal, and the day's before it
    ∷ rewrite_corrected_left morning (shown "C 0 9000 0 0 0 - 0 0 20000 0/") (replicate 62 7) is record {
      answer = Ok 61;
      out = shown "H 2 1 1/Z 0 0/Z 1 0/B 0 0 1 100/C 0 9000 0 0 0 - 0 0 20000 0/" ++ (7 ∷ []);
    }
    ∷ rewrite_corrected_left morning (shown "C 0 9000 0 0 0 - 0 0 20000 0/") (replicate 60 7) is record { answer = Err (too_short 61); out = replicate 60 7 }
    ∷ rewrite_corrected_left morning (shown "C 1 9000 0 0 0 - 0 0 20000 0/") [] is record { answer = Err (wrong_correction 1 3); out = [] }
    ∷ rewrite_corrected_left [] (shown "x") [] is record { answer = Err (wrong_form 1); out = [] }
    ∷ [])
unfolding computing
noon = refl
