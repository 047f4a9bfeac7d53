-- The corner sheet (02, E1) of the worked hour, and who has none, by computation.
use Rattle.std.specs.Prelude.{Err, Ok}
use mathlib.Core.Path.{refl}
use mathlib.Core.List.{List, [], ◌∷◌, ◌++◌}
use Prim.Native.Nat.{ℕ}
use lib.IntN.{ℤ, pos}
use lib.ListN.{replicate, take}
use Rattle.numbers.specs.Ints.{minus}
use Rattle.refusals.specs.Refusals.{out_of_range, given_twice, no_corners, too_short}
use Rattle.tablerules.specs.Table.{Table, lent}
use Rattle.marginrules.specs.Margin.{s_of}
use Rattle.cornerrules.specs.Corners.{judge_corners, corners_left}
use Rattle.cornertext.specs.CornerText.{corner_text_left}
use Rattle.sheets.specs.Sheets.{one_sheet, every_sheet}
use Rattle.numbers.specs.Computed.{◌is◌, Hold}
use Rattle.figures.specs.Computing.{computing}
use Rattle.text.specs.Shown.{shown}
use Rattle.figures.specs.Borders.{plain_border}
use Rattle.figures.specs.Hour.{hour_text, hour_table, b_twice, b_back, nines}

-- the hour with other borders
abbrev with_borders : List (List ℤ) → Table
with_borders borders = lent hour_table.header hour_table.nets [] borders hour_table.rows hour_table.factors

-- five zones, so many of thirteen borders, and one row
abbrev borders13 : List (List ℤ)
borders13 =
    plain_border 0 1 1 ∷ plain_border 0 2 1 ∷ plain_border 0 3 1 ∷ plain_border 0 4 1
    ∷ plain_border 1 0 1 ∷ plain_border 1 2 1 ∷ plain_border 1 3 1 ∷ plain_border 1 4 1
    ∷ plain_border 2 0 1 ∷ plain_border 2 1 1 ∷ plain_border 2 3 1 ∷ plain_border 2 4 1
    ∷ plain_border 3 0 1 ∷ []

abbrev many : (n : ℕ) → (borders : List (List ℤ)) → Table
many n borders =
    lent (record { zones = 5; borders = n; rows = 1; share = minus 1; intraday = 0 }) (replicate 5 (pos 0)) [] borders
    ((pos 10000 ∷ pos 0 ∷ pos 0 ∷ pos 0 ∷ pos 0 ∷ pos 0 ∷ pos 0 ∷ []) ∷ []) (replicate 5 (pos 0))

-- the sheets of the hour's rows, one after another
abbrev every_row : List ℕ
every_row =
    shown "K 0 0 0/K 0 1 2000000000/K 0 2 2000000000/K 0 3 4000000000/"
    ++ shown "K 1 0 0/K 1 1 0/K 1 2 1000000000/K 1 3 1000000000/"
    ++ shown "K 2 0 0/K 2 1 499900000/K 2 2 0/K 2 3 499900000/"
    ++ shown "K 3 0 0/K 3 1 2000000000/K 3 2 2000000000/K 3 3 4000000000/"

pub corners : Hold (
    -- the flows in front, the rest as it was; S of row 0 is 4,000,000,000, which is also the largest flow
    corners_left hour_table 0 (nines 5) is record { answer = Ok 4; out = pos 0 ∷ pos 2000000000 ∷ pos 2000000000 ∷ pos 4000000000 ∷ pos 9 ∷ [] }
    ∷ s_of (take 3 hour_table.factors) hour_table.borders is 4000000000
    -- a border that relieves the row, and the largest flow at neither end; the extraction would refuse this table (6)
    ∷ corners_left (with_borders b_back) 0 (nines 4) is record { answer = Ok 4; out = pos 0 ∷ pos 2000000000 ∷ minus 2000000000 ∷ pos 0 ∷ [] }
    -- 9 for the borders, or else for the row
    ∷ judge_corners (many 12 (take 12 borders13)) 0 is Ok (many 12 (take 12 borders13))
    ∷ corners_left (many 13 borders13) 0 [] is record { answer = Err (no_corners 13); out = [] }
    ∷ corners_left (many 13 borders13) 7 [] is record { answer = Err (no_corners 13); out = [] }
    ∷ corners_left hour_table 4 [] is record { answer = Err (no_corners 4); out = [] }
    -- 9 comes after 3 and 4, and before room for the flows
    ∷ corners_left (many 13 (plain_border 0 0 1 ∷ borders13)) 7 [] is record { answer = Err (out_of_range 7); out = [] }
    ∷ corners_left (with_borders b_twice) 4 [] is record { answer = Err (given_twice 1); out = [] }
    ∷ corners_left hour_table 0 (nines 3) is record { answer = Err (too_short 4); out = nines 3 }
    -- the text
    ∷ corner_text_left hour_table 1 (replicate 51 7) is record { answer = Ok 50; out = shown "K 1 0 0/K 1 1 0/K 1 2 1000000000/K 1 3 1000000000/" ++ (7 ∷ []) }
    ∷ corner_text_left hour_table 1 (replicate 49 7) is record { answer = Err (too_short 50); out = replicate 49 7 }
    ∷ corner_text_left (with_borders b_back) 0 (replicate 51 7) is record { answer = Ok 51; out = shown "K 0 0 0/K 0 1 2000000000/K 0 2 -2000000000/K 0 3 0/" }
    -- what the program prints
    ∷ one_sheet hour_text [] 1 is shown "K 1 0 0/K 1 1 0/K 1 2 1000000000/K 1 3 1000000000/"
    ∷ one_sheet hour_text [] 4 is shown "E 9 4 0/"
    ∷ one_sheet [] [] 4 is shown "E 2 1 0/"
    ∷ every_sheet hour_text [] is every_row
    ∷ [])
unfolding computing
corners = refl
