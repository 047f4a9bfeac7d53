-- What each refusal means, in words (01, "When the table is turned away"; 02), as one list of lines: a line for each number, from 0 on, and one for every other.
-- A # stands where the refusal's place belongs. `meaning_left` is what contracts cite.
use Rattle.std.specs.Prelude.{cond, List, [] as nil, ◌∷◌ as ◌then◌, ℕ, zero, suc, ◌-◌, ltb, length, take, Ok}
use Prim.Native.Char.{code}
use Prim.Native.String.{String, [], ◌∷◌}
use Rattle.text.specs.Fields.{feed}
use Rattle.text.specs.Left.{TextLeft, text_left}
use Rattle.text.specs.Line.{line_at, after}

-- the bytes of words, and of lines of words, each with its LF
abbrev pub bytes_of : String → List ℕ
bytes_of [] = nil
bytes_of (c ∷ s) = code c then bytes_of s

abbrev pub line_then : String → List ℕ → List ℕ
line_then [] rest = feed then rest
line_then (c ∷ s) rest = code c then line_then s rest

abbrev pub lines_of : List String → List ℕ
lines_of nil = nil
lines_of (s then ss) = line_then s (lines_of ss)

-- the table of refusals, in words
abbrev pub meanings : List String
meanings =
    "no refusal"
    then "a text has more than 65,536 bytes: send one hour alone"
    then "line # has the wrong form, kind, index or field count, is missing, has no LF, or is extra: look at its letter, index, tabs, LF and stray bytes (a CR, a BOM, a blank)"
    then "line # has a value outside its range (also a zone or hub that does not exist, or two equal ones; in line 1 a count or the default of R): compare its fields with the ranges in docs/RULES.md"
    then "border # has the same from, to and hubs as an earlier border: leave one of the two out"
    then "no row is kept: in every row the factors lie less than 5000 apart, so nothing limits the capacities: look at the factors"
    then "border # loads no kept row, so nothing limits it: leave it out, or add the row that does"
    then "row # has a starting margin (RAM - S) below 0: look at its CVA and IVA"
    then "a lent buffer is too short: it needs # items"
    then "no corner sheet: the table has more than 12 borders, or no such row: #"
    then "the correction sheet: line # has the wrong form or value, an index that is not above the one before, or one that the table has no row for: look at it as at a C line of the table"
    then "claim # (from 0) is malformed or out of range: look at its line's form, at D and the multipliers (1 to 1000), that its row and those it cites are kept (state 0), and that no row is claimed twice or cited and claimed"
    then "claim # (from 0) is not borne out: the rows that it cites do not make the claimed row redundant"
    then "no border is marked, or mark # of the list is no border of the table or was given before"
    then "no such border: the table has # borders, from 0 on"
    then "no refusal has this number"
    then nil

-- the last number that a refusal has, and the line that says what a number means
abbrev pub last_number : ℕ
last_number = 14

abbrev pub line_for : (number : ℕ) → ℕ
line_for number = cond (ltb last_number number) 15 number

-- the place where line k of a list begins
abbrev pub line_begin : (list : List ℕ) → (k : ℕ) → ℕ
line_begin list zero = 0
line_begin list (suc k) = after list (line_begin list k)

-- line k of a list, without its LF
abbrev pub words_at : (list : List ℕ) → (k : ℕ) → List ℕ
words_at list k = let line = line_at list (line_begin list k) in take (length line - 1) line

-- what a number means
unfoldable pub meaning_of : (number : ℕ) → List ℕ
meaning_of number = words_at (lines_of meanings) (line_for number)

-- the open call `refusal_text`
unfoldable pub meaning_left : (number : ℕ) → (out : List ℕ) → TextLeft
meaning_left number out = text_left (Ok (meaning_of number)) out
