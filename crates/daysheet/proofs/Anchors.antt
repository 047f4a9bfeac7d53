-- Two sheets, computed: a day with two hours that cannot be read, and one whose hours have other borders and another profile. Nobody cites it: it refuses a definition that slipped.
use mathlib.Core.Path.{refl}
use mathlib.Core.Bool.{Bool, true, false}
use mathlib.Core.List.{List, [], ◌∷◌, ◌++◌}
use Prim.Native.Nat.{ℕ, zero, suc}
use Rattle.numbers.specs.Computed.{◌is◌, Hold}
use Rattle.text.specs.Written.{text_of, decimal, lines_text}
use Rattle.daysheet.specs.declared.Hour.{Hour}
use Rattle.daysheet.specs.declared.Hour.TheVariants.{Answered, Refused, Unread}
use Rattle.daysheet.specs.Cell.{bytes}
use Rattle.daysheet.specs.Sheet.{way_of, own_of, line_cell, cell_at, front_text, line_of, most_borders, sheet_text}

abbrev line : List ℕ → List ℕ
line text = text ++ (10 ∷ [])

-- an hour's items: those of its borders, and as many as there is room for
abbrev filled : (most : ℕ) → List ℕ → List ℕ
filled zero items = []
filled (suc most) [] = 0 ∷ filled most []
filled (suc most) (item ∷ items) = item ∷ filled most items

-- zones 0 to 1, 1 to 0, 1 to 2, 2 to 3, 3 to 0
abbrev ways : List ℕ
ways = filled 64 (way_of 0 1 0 0 ∷ way_of 1 0 0 0 ∷ way_of 1 2 0 0 ∷ way_of 2 3 0 0 ∷ way_of 3 0 0 0 ∷ [])

abbrev answered : (rounds borders : ℕ) → (intraday : Bool) → Hour
answered rounds borders intraday = Answered (record { rounds = rounds; borders = borders; intraday = intraday })

abbrev h06 : Hour
h06 = answered 27 5 false

abbrev atcs : List ℕ
atcs = filled 64 (3233 ∷ 1424 ∷ 2007 ∷ 4088 ∷ 1629 ∷ [])

-- h07 has a cable from zone 0's hub to zone 1's, and another border; h08 is intraday; h09 is refused
abbrev mixed : List Hour
mixed = h06 ∷ answered 22 2 false ∷ answered 1 3 true ∷ Refused 2 1 0 ∷ []

abbrev cable : List ℕ
cable = filled 64 (way_of 0 1 1 2 ∷ way_of 1 2 0 0 ∷ [])

abbrev intraday : List ℕ
intraday = filled 64 (way_of 0 1 0 0 ∷ way_of 2 0 0 0 ∷ way_of 0 2 0 0 ∷ [])

abbrev others : List ℕ
others = filled 64 (1560 ∷ 3790 ∷ []) ++ (filled 64 (1550 ∷ 900 ∷ 800 ∷ []) ++ filled 64 [])

pub anchors : Hold (
    sheet_text (bytes "T24" ∷ bytes "T09" ∷ bytes "T06" ∷ []) (Unread ∷ Unread ∷ h06 ∷ []) (filled 64 [] ++ (filled 64 [] ++ ways)) (filled 64 [] ++ (filled 64 [] ++ atcs)) is
    (line (bytes "border;from;to;sending hub;receiving hub;T24;T09;T06") ++ line (bytes "rounds;;;;;X;X;27") ++ line (bytes "profile;;;;;X;X;day-ahead")
    ++ line (bytes "0;0;1;;;X;X;3233") ++ line (bytes "1;1;0;;;X;X;1424") ++ line (bytes "2;1;2;;;X;X;2007") ++ line (bytes "3;2;3;;;X;X;4088") ++ line (bytes "4;3;0;;;X;X;1629"))
    ∷ []
    )
unfolding text_of decimal lines_text own_of line_cell cell_at front_text line_of most_borders sheet_text
anchors = refl
