-- What the open calls leave on the worked hour: an accepted call of each, and the refusals and turns that only a lent call has, by computation.
use Rattle.std.specs.Prelude.{Err, Ok}
use mathlib.Core.Path.{refl}
use mathlib.Core.List.{List, [], ◌∷◌, ◌++◌}
use Prim.Native.Nat.{ℕ}
use lib.IntN.{ℤ, pos}
use lib.ListN.{replicate, take, drop}
use Rattle.numbers.specs.Ints.{minus}
use Rattle.refusals.specs.Refusals.{wrong_form_at, wrong_form, out_of_range_at, out_of_range, given_twice, unlimited, below_zero, too_short, bad_mark}
use Rattle.types.specs.declared.Header.{Header}
use Rattle.tablerules.specs.Table.{lent}
use Rattle.reading.specs.Reading.{read_left}
use Rattle.writing.specs.Writing.{table_text, write_left}
use Rattle.extractrules.specs.Extraction.{extract_left}
use Rattle.answer.specs.Result.{result_text_left, result_text_marked_left, answer_left}
use Rattle.numbers.specs.Computed.{◌is◌, Hold}
use Rattle.figures.specs.Computing.{computing}
use Rattle.text.specs.Shown.{shown}
use Rattle.figures.specs.Hour.{hour_text, hour_result, marked_result, hour_table, b_twice, b_back, nines}

-- the hour's tables, as they are lent
abbrev h : Header
h = hour_table.header

abbrev z : List ℤ
z = hour_table.nets

abbrev b : List (List ℤ)
b = hour_table.borders

abbrev c : List (List ℤ)
c = hour_table.rows

abbrev f : List ℤ
f = hour_table.factors

-- lent memory that holds something else
abbrev old : (n : ℕ) → List (List ℤ)
old n = replicate n (pos 5 ∷ [])

abbrev sevens : (n : ℕ) → List ℕ
sevens n = replicate n 7

-- the hour's factors by border: rows 2 and 3 are not kept
abbrev ps : List ℕ
ps = 20000 ∷ 10000 ∷ 0 ∷ 5000 ∷ 0 ∷ 0 ∷ 0 ∷ 0 ∷ []

-- the hour's results: ATC; state, RAM, margin left (-1 where the state is not 0)
abbrev ATCs : List (List ℤ)
ATCs = (pos 2599 ∷ pos 21 ∷ pos 0 ∷ []) ∷ (pos 1800 ∷ pos 1 ∷ pos 1 ∷ []) ∷ []

abbrev lefts : List (List ℤ)
lefts =
    (pos 0 ∷ pos 70000000000 ∷ pos 20000 ∷ []) ∷ (pos 0 ∷ pos 9000000000 ∷ pos 0 ∷ [])
    ∷ (pos 1 ∷ pos 12499500000 ∷ minus 1 ∷ []) ∷ (pos 2 ∷ pos 100000000000 ∷ minus 1 ∷ []) ∷ []

-- row 1 with a CVA that takes its starting margin below 0, and a row record out of range
abbrev cva_high : List (List ℤ)
cva_high = take 1 c ++ ((pos 100000 ∷ pos 10000 ∷ pos 15000 ∷ pos 0 ∷ minus 1 ∷ pos 90000 ∷ pos 0 ∷ []) ∷ drop 2 c)

abbrev frm_high : List (List ℤ)
frm_high = take 1 c ++ ((pos 100000 ∷ pos 100001 ∷ pos 15000 ∷ pos 0 ∷ minus 1 ∷ pos 0 ∷ pos 0 ∷ []) ∷ drop 2 c)

pub lent_calls : Hold (
    -- read: the table in front, the rest as it was
    read_left hour_text (nines 4) [] (old 3) (old 4) (nines 13) is record { answer = Ok h; z = z ++ nines 1; t = []; b = b ++ old 1; c = c; f = f ++ nines 1 }
    -- read: 8 in the order Z, B, C, factors, and nothing written (T: `Intraday.antt`)
    ∷ read_left hour_text (nines 2) [] (old 1) (old 3) [] is record { answer = Err (too_short 3); z = nines 2; t = []; b = old 1; c = old 3; f = [] }
    ∷ read_left hour_text (nines 4) [] (old 1) (old 3) [] is record { answer = Err (too_short 2); z = nines 4; t = []; b = old 1; c = old 3; f = [] }
    ∷ read_left hour_text (nines 4) [] (old 2) (old 3) [] is record { answer = Err (too_short 4); z = nines 4; t = []; b = old 2; c = old 3; f = [] }
    ∷ read_left hour_text z [] b c (take 11 f) is record { answer = Err (too_short 12); z = z; t = []; b = b; c = c; f = take 11 f }
    -- read: 8 comes after 1 to 4
    ∷ read_left (take 100 hour_text) [] [] [] [] [] is record { answer = Err (wrong_form 7); z = []; t = []; b = []; c = []; f = [] }
    -- read: the byte to blame (02, E5)
    ∷ read_left (shown "H 3 2 4/Z 0 +5/") [] [] [] [] [] is record { answer = Err (wrong_form_at 2 5); z = []; t = []; b = []; c = []; f = [] }
    ∷ read_left (shown "H 3 2 4/Z 0 100000001/") [] [] [] [] [] is record { answer = Err (out_of_range_at 2 5); z = []; t = []; b = []; c = []; f = [] }
    -- write: from tables that may be longer than needed; the rest of the text as it was
    ∷ write_left (lent h (z ++ z) [] (b ++ b) (c ++ c) (f ++ f)) (replicate 253 7) is record { answer = Ok 252; out = hour_text ++ (7 ∷ []) }
    ∷ write_left hour_table (replicate 251 7) is record { answer = Err (too_short 252); out = replicate 251 7 }
    -- a call on lent tables judges the header (3, line 1), then lengths (8), then 3 and 4 with the line the record would have
    ∷ write_left (lent (record { zones = 3; borders = 65; rows = 4; share = minus 1; intraday = 0 }) [] [] [] [] []) [] is record { answer = Err (out_of_range 1); out = [] }
    ∷ write_left (lent h (pos 100000001 ∷ []) [] b c f) [] is record { answer = Err (too_short 3); out = [] }
    ∷ write_left (lent h z [] b_twice frm_high (take 11 f)) [] is record { answer = Err (too_short 12); out = [] }
    ∷ write_left (lent h (pos 0 ∷ pos 100000001 ∷ pos 0 ∷ []) [] b c f) [] is record { answer = Err (out_of_range 3); out = [] }
    ∷ write_left (lent h z [] ((pos 0 ∷ minus 1 ∷ pos 0 ∷ []) ∷ b) c f) [] is record { answer = Err (out_of_range 5); out = [] }
    ∷ write_left (lent h z [] b_twice frm_high f) [] is record { answer = Err (out_of_range 8); out = [] }
    ∷ write_left (lent h z [] b c (take 6 f ++ (pos 100001 ∷ drop 7 f))) [] is record { answer = Err (out_of_range 9); out = [] }
    ∷ write_left (lent h z [] b_twice c f) [] is record { answer = Err (given_twice 1); out = [] }
    -- only the extraction goes on to 5, 6 and 7, so that a table it refuses can be written
    ∷ write_left (lent h z [] b_back c f) (replicate 252 7) is record { answer = Ok 252; out = table_text (lent h z [] b_back c f) }
    ∷ extract_left (lent h z [] b_back c f) (sevens 8) [] [] is record { answer = Err (unlimited 1); p = sevens 8; atcs = []; lefts = [] }
    ∷ extract_left (lent h z [] b cva_high f) (sevens 8) [] [] is record { answer = Err (below_zero 1); p = sevens 8; atcs = []; lefts = [] }
    -- extract: p and results in front, the rest as it was; last comes room for results, border results before row results
    ∷ extract_left hour_table (sevens 9) (old 3) (old 5) is record { answer = Ok 21; p = ps ++ sevens 1; atcs = ATCs ++ old 1; lefts = lefts ++ old 1 }
    ∷ extract_left hour_table (sevens 8) (old 2) (old 3) is record { answer = Err (too_short 4); p = sevens 8; atcs = old 2; lefts = old 3 }
    ∷ extract_left hour_table (sevens 8) (old 1) (old 3) is record { answer = Err (too_short 2); p = sevens 8; atcs = old 1; lefts = old 3 }
    -- extract: room for p is judged after the factors, and before any record
    ∷ extract_left (lent h z [] b frm_high f) (sevens 7) [] [] is record { answer = Err (too_short 8); p = sevens 7; atcs = []; lefts = [] }
    -- result_text
    ∷ result_text_left hour_table (replicate 118 7) is record { answer = Ok 116; out = hour_result ++ (7 ∷ 7 ∷ []) }
    ∷ result_text_left hour_table (replicate 115 7) is record { answer = Err (too_short 116); out = replicate 115 7 }
    ∷ result_text_left (lent h z [] b cva_high f) [] is record { answer = Err (below_zero 1); out = [] }
    -- result_text with border 1 marked, and with a mark that is no border; and then answer
    ∷ result_text_marked_left hour_table (1 ∷ []) (replicate 120 7) is record { answer = Ok 119; out = marked_result ++ (7 ∷ []) }
    ∷ result_text_marked_left hour_table (1 ∷ []) (replicate 118 7) is record { answer = Err (too_short 119); out = replicate 118 7 }
    ∷ result_text_marked_left hour_table (1 ∷ 2 ∷ []) [] is record { answer = Err (bad_mark 2); out = [] }
    ∷ answer_left hour_text (replicate 117 7) is record { answer = Ok 116; out = hour_result ++ (7 ∷ []) }
    ∷ answer_left [] (replicate 10 7) is record { answer = Ok 8; out = shown "E 2 1 0/" ++ (7 ∷ 7 ∷ []) }
    ∷ answer_left [] (replicate 7 7) is record { answer = Err (too_short 8); out = replicate 7 7 }
    ∷ [])
unfolding computing
lent_calls = refl
