-- The cells of a day's sheet: what stands there for an hour that is answered, and for one that is refused.
use Rattle.std.specs.Prelude.{List, [] as nil, ◌∷◌ as ◌then◌, ◌++◌, ℕ}
use Prim.Native.Char.{code}
use Prim.Native.String.{String, [], ◌∷◌}
use Rattle.text.specs.Written.{decimal}
use Rattle.daysheet.specs.declared.Own.{Own}
use Rattle.daysheet.specs.declared.Own.TheVariants.{Number, DayAhead, Intraday, Absent, Other}

-- the bytes of a text as it is written here
abbrev pub bytes : String → List ℕ
bytes [] = nil
bytes (c ∷ s) = code c then bytes s

abbrev pub blank : ℕ
blank = 32

-- a number of an E line, behind a blank
abbrev pub spaced : (n : ℕ) → List ℕ
spaced n = blank then decimal n

-- an E line: number, place and byte, with blanks for tabs
abbrev pub refused_cell : (number place byte : ℕ) → List ℕ
refused_cell number place byte = (code "E" then spaced number) ++ spaced place ++ spaced byte

-- what an hour that is answered has there: a number, its profile, no such border, or a border between other zones or hubs
abbrev pub own_text : Own → List ℕ
own_text (Number number) = decimal number
own_text DayAhead = bytes "day-ahead"
own_text Intraday = bytes "intraday"
own_text Absent = bytes "-"
own_text Other = bytes "other"
