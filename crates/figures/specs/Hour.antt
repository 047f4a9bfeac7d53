-- The hour that is checked whole (01): its text, its result, and the table as a value; other borders for it, and lent memory.
use Rattle.std.specs.Prelude.{List, [], ◌∷◌, ◌++◌, ℕ, ℤ, pos, replicate, take, drop}
use Rattle.numbers.specs.Ints.{minus}
use Rattle.tablerules.specs.Table.{Table}
use Rattle.text.specs.Shown.{shown}
use Rattle.figures.specs.Borders.{plain_border}

abbrev pub hour_text : List ℕ
hour_text =
    shown "H 3 2 4/Z 0 500000/Z 1 -200000/Z 2 -300000/B 0 0 1 100/B 1 1 2 200/"
    ++ shown "C 0 1000000 200000 200000 150000 7000 0 80000 30000 10000 0/"
    ++ shown "C 1 100000 10000 15000 0 7000 0 0 5000 5000 0/"
    ++ shown "C 2 100000 0 0 0 0 0 0 4999 0 0/"
    ++ shown "C 3 1000000 0 130000 0 7000 0 0 20000 0 -10000/"

abbrev pub hour_result : List ℕ
hour_result =
    shown "A 0 2599 21 0/A 1 1800 1 1/"
    ++ shown "M 0 0 70000000000 20000/M 1 0 9000000000 0/M 2 1 12499500000 -/M 3 2 100000000000 -/R 21/"

-- the hour's result with border 1 marked (02, E13): border 0 stays at its LTA
abbrev pub marked_result : List ℕ
marked_result =
    shown "A 0 100 0 -/A 1 1800 1 1/"
    ++ shown "M 0 0 70000000000 50000000000/M 1 0 9000000000 0/M 2 1 12499500000 -/M 3 2 100000000000 -/R 1/"

abbrev pub hour_table : Table
hour_table =
    record {
      header = record { zones = 3; borders = 2; rows = 4; share = minus 1; intraday = 0 };
      nets = pos 500000 ∷ minus 200000 ∷ minus 300000 ∷ [];
      allocated = [];
      borders = plain_border 0 1 100 ∷ plain_border 1 2 200 ∷ [];
      rows =
          (pos 1000000 ∷ pos 200000 ∷ pos 200000 ∷ pos 150000 ∷ pos 7000 ∷ pos 0 ∷ pos 80000 ∷ [])
          ∷ (pos 100000 ∷ pos 10000 ∷ pos 15000 ∷ pos 0 ∷ pos 7000 ∷ pos 0 ∷ pos 0 ∷ [])
          ∷ (pos 100000 ∷ pos 0 ∷ pos 0 ∷ pos 0 ∷ pos 0 ∷ pos 0 ∷ pos 0 ∷ [])
          ∷ (pos 1000000 ∷ pos 0 ∷ pos 130000 ∷ pos 0 ∷ pos 7000 ∷ pos 0 ∷ pos 0 ∷ [])
          ∷ [];
      factors =
          pos 30000 ∷ pos 10000 ∷ pos 0 ∷ pos 5000 ∷ pos 5000 ∷ pos 0 ∷ pos 4999 ∷ pos 0 ∷ pos 0 ∷ pos 20000 ∷ pos 0 ∷ minus 10000 ∷ [];
    }

-- borders of which the second has the same ends as the first, and a border that no kept row limits
abbrev pub b_twice : List (List ℤ)
b_twice = plain_border 1 2 0 ∷ drop 1 hour_table.borders

abbrev pub b_back : List (List ℤ)
b_back = take 1 hour_table.borders ++ (plain_border 2 1 200 ∷ [])

-- lent memory that holds something else
abbrev pub nines : (n : ℕ) → List ℤ
nines n = replicate n (pos 9)
