-- A day as one sheet: semicolons, one line for each border, one column for each hour, whole MW. Contracts cite `cell_at` and `frontAt`; `sheet_text` is the whole.
-- `ways` and `atcs` hold for each hour as many items as a table may have borders.
use Rattle.std.specs.Prelude.{Bool, false, cond, List, [], ◌∷◌, ◌++◌, ℕ, ◌+◌, ◌*◌, ◌-◌, ◌/◌, ◌%◌, max, eqb, leb, ltb, length, get_or}
use Rattle.std.specs.Option.{unwrap_or}
use Rattle.std.specs.List.{position}
use Prim.Native.Char.{code}
use Rattle.limits.specs.Limits.{borders_most}
use Rattle.numbers.specs.Below.{at}
use Rattle.text.specs.Fields.{feed}
use Rattle.text.specs.Written.{decimal, lines_text}
use Rattle.daysheet.specs.declared.Line.{Line}
use Rattle.daysheet.specs.declared.Line.TheVariants.{Rounds, Profile, Border}
use Rattle.daysheet.specs.declared.Answer.{Answer}
use Rattle.daysheet.specs.declared.Hour.{Hour}
use Rattle.daysheet.specs.declared.Hour.TheVariants.{Answered, Refused, Unread}
use Rattle.daysheet.specs.declared.Own.{Own}
use Rattle.daysheet.specs.declared.Own.TheVariants.{Number, DayAhead, Intraday, Absent, Other}
use Rattle.daysheet.specs.Cell.{bytes, own_text, refused_cell}

-- a day has at most 100 quarter-hours
abbrev pub hours_most : ℕ
hours_most = 100

-- where a border goes, as one number: from, to, sending hub, receiving hub; a hub is one higher than its zone, and 0 where there is none
abbrev pub way_of : (from to sending receiving : ℕ) → ℕ
way_of from to sending receiving = ((from * 32 + to) * 32 + sending) * 32 + receiving

-- what an hour that is answered has in a line: below the labels stand the rounds and the profile. Where an hour has no border of that index it is -; where its border goes
-- another way than the one that is named, it is `other`
abbrev pub own_of : Line → Answer → (way name atc : ℕ) → Own
own_of Rounds answer way name atc = Number answer.rounds
own_of Profile answer way name atc = cond answer.intraday Intraday DayAhead
own_of (Border b) answer way name atc = cond (leb answer.borders b) Absent (cond (eqb way name) (Number atc) Other)

-- the cell of an hour in a line, behind its semicolon: a refused hour has its E line in every one, an unread one X
unfoldable pub line_cell : Line → Hour → (way name atc : ℕ) → List ℕ
line_cell line (Answered answer) way name atc = code ";" ∷ own_text (own_of line answer way name atc)
line_cell line (Refused number place byte) way name atc = code ";" ∷ refused_cell number place byte
line_cell line Unread way name atc = code ";" ∷ bytes "X"

-- the border that a line is of; those above are of none, and look at border 0's items for nothing
abbrev pub border_of : Line → ℕ
border_of Rounds = 0
border_of Profile = 0
border_of (Border b) = b

-- an hour's item of a border
abbrev pub place : (k b : ℕ) → ℕ
place k b = k * borders_most + b

-- how many borders an hour has that is answered
abbrev pub borders_of : Hour → ℕ
borders_of (Answered answer) = answer.borders
borders_of (Refused number place byte) = 0
borders_of Unread = 0

-- an hour is answered, and has a border of that index
abbrev pub has_border : (b : ℕ) → Hour → Bool
has_border b hour = ltb b (borders_of hour)

-- the first hour that has one; as many as there are hours where none has
abbrev pub first_with : (b : ℕ) → (hours : List Hour) → ℕ
first_with b hours = unwrap_or (position (has_border b) hours) (length hours)

-- a border is named as in the first hour that has it
abbrev pub name_of : (b : ℕ) → (hours : List Hour) → (ways : List ℕ) → ℕ
name_of b hours ways = at ways (place (first_with b hours) b)

-- what stands past the last hour: an answered one without rounds and borders, day-ahead
abbrev pub past : Hour
past = Answered (record { rounds = 0; borders = 0; intraday = false })

-- the cell of hour k
abbrev pub cell_at : Line → (hours : List Hour) → (ways atcs : List ℕ) → (k : ℕ) → List ℕ
cell_at line hours ways atcs k =
    line_cell line (get_or hours k past) (at ways (place k (border_of line))) (name_of (border_of line) hours ways) (at atcs (place k (border_of line)))

-- a field of a line's front; a hub's is empty where there is none
abbrev pub field : (n : ℕ) → List ℕ
field n = code ";" ∷ decimal n

abbrev pub hub_field : (hub : ℕ) → List ℕ
hub_field hub = code ";" ∷ cond (eqb hub 0) [] (decimal (hub - 1))

-- a border's index, from, to and hubs
abbrev pub border_front : (b name : ℕ) → List ℕ
border_front b name = decimal b ++ field (name / 32768) ++ field (name / 1024 % 32) ++ hub_field (name / 32 % 32) ++ hub_field (name % 32)

-- a line's first fields: what it is of
unfoldable pub front_text : Line → (name : ℕ) → List ℕ
front_text Rounds name = bytes "rounds;;;;"
front_text Profile name = bytes "profile;;;;"
front_text (Border b) name = border_front b name

-- a line: its front, the cell of each hour, and the LF
unfoldable pub line_of : Line → (hours : List Hour) → (ways atcs : List ℕ) → List ℕ
line_of line hours ways atcs = front_text line (name_of (border_of line) hours ways) ++ (lines_text (length hours) 0 (cell_at line hours ways atcs) ++ (feed ∷ []))

-- the most borders of any hour
unfoldable pub most_borders : (hours : List Hour) → ℕ
most_borders [] = 0
most_borders (h ∷ hours) = max (borders_of h) (most_borders hours)

-- the labels, each behind a semicolon
abbrev pub label_fields : List (List ℕ) → List ℕ
label_fields [] = []
label_fields (label ∷ labels) = code ";" ∷ (label ++ label_fields labels)

-- the whole: the labels, the rounds, the profiles, and a line for each border that any hour has
unfoldable pub sheet_text : (labels : List (List ℕ)) → (hours : List Hour) → (ways atcs : List ℕ) → List ℕ
sheet_text labels hours ways atcs =
    bytes "border;from;to;sending hub;receiving hub" ++ (label_fields labels ++ (feed ∷ [])) ++ line_of Rounds hours ways atcs ++ line_of Profile hours ways atcs
    ++ lines_text (most_borders hours) 0 (λ b. line_of (Border b) hours ways atcs)
