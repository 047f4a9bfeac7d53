-- A day's sheet, computed from texts: an hour that did not come, 01's hour, and a text that is refused. Nobody cites it: it refuses a definition that slipped.
use Rattle.std.specs.Prelude.{None, Option, Some}
use mathlib.Core.Path.{refl}
use mathlib.Core.Bool.{true, false}
use mathlib.Core.List.{List, [], ◌∷◌, ◌++◌}
use Prim.Native.Nat.{ℕ}
use lib.ListN.{replicate}
use Rattle.numbers.specs.Computed.{◌is◌, Hold}
use Rattle.text.specs.Shown.{shown}
use Rattle.daysheet.specs.declared.Hour.TheVariants.{Answered, Refused}
use Rattle.daysheet.specs.Cell.{bytes}
use Rattle.daysheet.specs.Sheet.{way_of, line_cell, front_text, line_of, most_borders, sheet_text}
use Rattle.figures.specs.Computing.{computing}
use Rattle.figures.specs.Hour.{hour_text}
use Rattle.hourfigures.specs.Items.{border_way, ways_of, atcs_of}
use Rattle.hourfigures.specs.Figures.{figures, figures_by}
use Rattle.hourtables.specs.Hour.{hour_of}
use Rattle.hourtables.specs.Day.{filled_by, day_sheet}

abbrev line : List ℕ → List ℕ
line text = text ++ (10 ∷ [])

abbrev labels : List (List ℕ)
labels = bytes "h1" ∷ bytes "h2" ∷ bytes "h3" ∷ []

abbrev cames : List (Option (List ℕ))
cames = None ∷ Some hour_text ∷ Some (shown "H 3 2/") ∷ []

-- intraday, a border between hubs and one without
abbrev cable : List ℕ
cable = shown "H 2 2 1/Z 0 0/Z 1 0/T 0 0/T 1 0/B 0 0 1 0 1 0/B 1 0 1 0/C 0 1000000 0 0 0 0 0 0 20000 0/"

pub anchors : Hold (
    hour_of true [] hour_text is figures (Answered (record { rounds = 21; borders = 2; intraday = false })) (way_of 0 1 0 0 ∷ way_of 1 2 0 0 ∷ []) (2599 ∷ 1800 ∷ [])
    ∷ hour_of false (1 ∷ []) hour_text is figures (Answered (record { rounds = 1; borders = 2; intraday = false })) (way_of 0 1 0 0 ∷ way_of 1 2 0 0 ∷ []) (100 ∷ 1800 ∷ [])
    ∷ hour_of false [] hour_text is figures (Refused 13 0 0) [] []
    ∷ hour_of true [] cable is figures (Answered (record { rounds = 1; borders = 2; intraday = true })) (way_of 0 1 2 1 ∷ way_of 0 1 0 0 ∷ []) (1250 ∷ 2500 ∷ [])
    ∷ day_sheet true [] (replicate 192 7) labels cames is
    (line (bytes "border;from;to;sending hub;receiving hub;h1;h2;h3") ++ line (bytes "rounds;;;;;X;21;E 2 1 0") ++ line (bytes "profile;;;;;X;day-ahead;E 2 1 0")
    ++ line (bytes "0;0;1;;;X;2599;E 2 1 0") ++ line (bytes "1;1;2;;;X;1800;E 2 1 0"))
    ∷ []
    )
unfolding computing line_cell front_text line_of most_borders sheet_text border_way ways_of atcs_of figures_by hour_of filled_by day_sheet
anchors = refl
