-- Each refusal that a text can meet, with its place and its turn (01, "When the table is turned away"), by computation.
-- The numbers of 8 and of 9 to 14 are in `RefusalTable.antt`, both ends of every range (3) in `Ranges.antt`, 4 and 7 in `Figures.antt` too.
use mathlib.Core.Path.{refl}
use mathlib.Core.List.{[], ◌∷◌, ◌++◌}
use lib.ListN.{replicate}
use Rattle.answer.specs.Result.{answer_text}
use Rattle.numbers.specs.Computed.{◌is◌, Hold}
use Rattle.figures.specs.Computing.{computing}
use Rattle.text.specs.Shown.{shown}
use Rattle.figures.specs.Small.{small_text, border, row, with_zone, with_border, with_row}

pub refusals : Hold (
    -- 1: more than 65,536 bytes, before anything else
    answer_text (replicate 65537 48) is shown "E 1 0 0/"
    ∷ answer_text (replicate 65536 48) is shown "E 2 1 0/"
    -- 2: wrong form: eleven digits, a leading zero, no digit, a plus, a minus before no digit, in a field that has no sign or in R, "-" elsewhere, bytes that no field has
    ∷ with_zone "Z 1 10000000000/" is shown "E 2 3 15/"
    ∷ with_zone "Z 1 01/" is shown "E 2 3 6/"
    ∷ with_zone "Z 1 00/" is shown "E 2 3 6/"
    ∷ with_border "B 0 0  100/" is shown "E 2 4 7/"
    ∷ with_zone "Z 1 /" is shown "E 2 3 5/"
    ∷ with_zone "Z 1 +5/" is shown "E 2 3 5/"
    ∷ with_zone "Z 1 -/" is shown "E 2 3 6/"
    ∷ with_border "B 0 0 1 -1/" is shown "E 2 4 9/"
    ∷ with_row "C 0 10000 0 0 0 -5 0 0 20000 0/" is shown "E 2 5 18/"
    ∷ with_row "C 0 10000 0 0 0 0 - 0 20000 0/" is shown "E 2 5 19/"
    ∷ answer_text (small_text (shown "Z 1 0" ++ (13 ∷ 10 ∷ [])) border row) is shown "E 2 3 6/"
    ∷ answer_text (small_text (shown "Z 1" ++ (32 ∷ 48 ∷ 10 ∷ [])) border row) is shown "E 2 3 4/"
    -- 2: wrong kind, index, field count
    ∷ with_zone "B 1 0/" is shown "E 2 3 0/"
    ∷ with_zone "Z 2 0/" is shown "E 2 3 3/"
    ∷ with_border "B 0 0 1/" is shown "E 2 4 0/"
    ∷ with_row "C 0 10000 0 0 0 0 0 0 20000 0 0/" is shown "E 2 5 0/"
    -- 2: a line missing, no LF, an extra line
    ∷ with_row "" is shown "E 2 5 0/"
    ∷ with_row "C 0 10000 0 0 0 0 0 0 20000 0" is shown "E 2 5 0/"
    ∷ with_row "C 0 10000 0 0 0 0 0 0 20000 0//" is shown "E 2 6 0/"
    -- lines one by one, form before range, and the first faulty line decides
    ∷ with_row "C 0 0 0 0 0 0 0 0 20000 01/" is shown "E 2 5 26/"
    ∷ with_zone "Z 2 100000001/" is shown "E 2 3 3/"
    ∷ with_row "C 0 0 0 0 0 0 0 0 20000 0" is shown "E 2 5 0/"
    ∷ answer_text (small_text (shown "Z 1 100000001/") (shown "B") row) is shown "E 3 3 5/"
    -- 3: right form, a value outside its range: ten digits are right form
    ∷ with_zone "Z 1 -9999999999/" is shown "E 3 3 5/"
    -- 4 comes after 2 and 3 of every line
    ∷ answer_text (shown "H 2 2 1/Z 0 0/Z 1 0/B 0 0 1 0/B 1 0 1 0/C 0 0 0 0 0 0 0 0 20000 0/") is shown "E 3 6 5/"
    -- 4 comes before 5, and names the first border that has the ends of an earlier one
    ∷ answer_text (shown "H 2 4 1/Z 0 0/Z 1 0/B 0 0 1 0/B 1 1 0 0/B 2 1 0 5/B 3 0 1 5/C 0 10000 0 0 0 0 0 0 4999 0/") is shown "E 4 2 0/"
    -- 5: no row of state 0, before 6
    ∷ answer_text (shown "H 2 1 1/Z 0 0/Z 1 0/B 0 1 0 100/C 0 10000 0 0 0 0 0 0 4999 0/") is shown "E 5 0 0/"
    -- 6: a border with p > 0 on no kept row, before 7
    ∷ answer_text (shown "H 2 2 1/Z 0 0/Z 1 0/B 0 0 1 100/B 1 1 0 0/C 0 10000 0 0 0 0 0 1 20000 0/") is shown "E 6 1 0/"
    -- 6: p > 0 on a row that is not kept is not enough
    ∷ answer_text (shown "H 3 2 2/Z 0 0/Z 1 0/Z 2 0/B 0 0 1 0/B 1 1 2 0/C 0 100000 0 0 0 0 0 0 20000 0 0/C 1 100000 0 0 0 0 0 0 4999 4999 0/") is shown "E 6 1 0/"
    -- 7: a kept row's starting margin is below 0, the first such row, by CVA too
    ∷ answer_text (shown "H 2 1 3/Z 0 0/Z 1 0/B 0 0 1 100/C 0 10000 0 0 0 0 0 0 20000 0/C 1 10000 0 0 0 0 1 0 19000 0/C 2 10000 0 0 0 0 0 1 18000 0/") is shown "E 7 1 0/"
    -- 7: kept rows only; RAM may be negative
    ∷ answer_text (shown "H 2 1 2/Z 0 0/Z 1 0/B 0 0 1 100/C 0 10000 0 0 0 0 0 0 20000 0/C 1 10000 0 0 0 0 0 10000000 1000 0/") is shown "A 0 100 0 0/M 0 0 2000000000 0/M 1 1 -999000000000 -/R 0/"
    ∷ [])
unfolding computing
refusals = refl
