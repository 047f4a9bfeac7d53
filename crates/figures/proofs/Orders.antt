-- Two faults in one table, for each order that 01 names ("When the table is turned away"), and refusal 8's own number, by computation.
-- A text's two faults, and 5, 6 and 7, are in `Refusals.antt`; room for results last is in `Lent.antt`.
use Rattle.std.specs.Prelude.{Err}
use mathlib.Core.Path.{refl}
use mathlib.Core.List.{List, [], ◌∷◌, ◌++◌}
use Prim.Native.Nat.{ℕ}
use lib.IntN.{ℤ, pos}
use lib.ListN.{replicate, take}
use Rattle.refusals.specs.Refusals.{Judged, given_twice, out_of_range_at, too_short}
use Rattle.tablerules.specs.Table.{Table, lent, judge_lent}
use Rattle.reading.specs.Reading.{read_left}
use Rattle.writing.specs.Writing.{write_left}
use Rattle.extractrules.specs.Extraction.{extract_left}
use Rattle.numbers.specs.Computed.{◌is◌, Hold}
use Rattle.figures.specs.Computing.{computing}
use Rattle.text.specs.Shown.{shown}
use Rattle.figures.specs.Borders.{plain_border}
use Rattle.figures.specs.Hour.{hour_text, hour_table, b_twice}

-- the hour's header with other tables
abbrev judged : (z : List ℤ) → (b c : List (List ℤ)) → (f : List ℤ) → Judged Table
judged z b c f = judge_lent (lent hour_table.header z [] b c f)

-- one item fewer than the hour has
abbrev short_z : List ℤ
short_z = take 2 hour_table.nets

abbrev short_b : List (List ℤ)
short_b = take 1 hour_table.borders

abbrev short_c : List (List ℤ)
short_c = take 3 hour_table.rows

abbrev short_f : List ℤ
short_f = take 11 hour_table.factors

-- the last item out of its range: a net position, a border to no zone, an Fmax of 0, a factor
abbrev far_z : List ℤ
far_z = short_z ++ (pos 100000001 ∷ [])

abbrev far_b : List (List ℤ)
far_b = short_b ++ (plain_border 1 3 200 ∷ [])

abbrev far_c : List (List ℤ)
far_c = short_c ++ ((pos 0 ∷ pos 0 ∷ pos 130000 ∷ pos 0 ∷ pos 7000 ∷ pos 0 ∷ pos 0 ∷ []) ∷ [])

-- the hour with its second border as its first
abbrev twice_text : List ℕ
twice_text =
    shown "H 3 2 1/Z 0 500000/Z 1 -200000/Z 2 -300000/B 0 0 1 100/B 1 0 1 200/C 0 1000000 200000 200000 150000 7000 0 80000 30000 10000 0/"

pub ordered : Hold (
    -- refusal 8 has the number 8, in reading, on lent tables, and for each result
    (read_left hour_text [] [] [] [] []).answer is Err (too_short 3)
    ∷ (write_left (lent hour_table.header [] [] [] [] []) []).answer is Err (too_short 3)
    ∷ (write_left hour_table []).answer is Err (too_short 252)
    ∷ (extract_left hour_table [] [] []).answer is Err (too_short 8)
    ∷ (extract_left hour_table (replicate 8 7) [] []).answer is Err (too_short 2)
    -- short tables in the order Z, B, C, factors, p
    ∷ judged short_z short_b hour_table.rows hour_table.factors is Err (too_short 3)
    ∷ judged hour_table.nets short_b short_c hour_table.factors is Err (too_short 2)
    ∷ judged hour_table.nets hour_table.borders short_c short_f is Err (too_short 4)
    ∷ (extract_left (lent hour_table.header hour_table.nets [] hour_table.borders hour_table.rows short_f) (replicate 7 7) [] []).answer is Err (too_short 12)
    -- lengths before ranges, whichever table it is
    ∷ judged far_z far_b far_c short_f is Err (too_short 12)
    ∷ (extract_left (lent hour_table.header far_z [] far_b far_c hour_table.factors) (replicate 7 7) [] []).answer is Err (too_short 8)
    -- records by the line they would have: Z lines 2 to 4, B lines 5 and 6, C lines 7 to 10
    ∷ judged far_z far_b hour_table.rows hour_table.factors is Err (out_of_range_at 4 0)
    ∷ judged hour_table.nets far_b far_c hour_table.factors is Err (out_of_range_at 6 0)
    -- 3 before 4, also where the border comes first
    ∷ judged hour_table.nets b_twice far_c hour_table.factors is Err (out_of_range_at 10 0)
    -- reading: 4 before 8
    ∷ (read_left twice_text [] [] [] [] []).answer is Err (given_twice 1)
    ∷ [])
unfolding computing
ordered = refl
