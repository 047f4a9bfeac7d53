-- What `tidy` makes of a text: only what is certain is repaired, and all else stays. `tidied` and `tidy_left` are what contracts cite.
-- BOMs and blanks at the text's begin go; in each line CR and blanks at its end, in each field blanks at its ends and quotes around it; trimmed decimals of a
-- semicolon row come back; lines at the text's end without a byte but tabs and semicolons go; each line ends in one LF.
use Rattle.std.specs.Prelude.{Bool, true, false, cond, not, ◌&&◌, ◌||◌, List, [], ◌∷◌, ◌++◌, ℕ, zero, suc, ◌+◌, ltb, eqb, length, get_or, drop, Err, Ok}
use Rattle.limits.specs.Limits.{bytes_most}
use Rattle.refusals.specs.Refusals.{too_long}
use Rattle.text.specs.Fields.{tab, feed}
use Rattle.text.specs.Left.{TextLeft, text_left}
use Rattle.columns.specs.Columns.{power_decimals, factor_decimals}
use Rattle.tidyrules.specs.Cut.{Cut, lastly, ended, one_of, cut, joined, ended_by}
use Rattle.tidyrules.specs.Fields.{blank, empty, repaired}

abbrev pub semicolon : ℕ
semicolon = 59

-- ---- a line
-- a row of the planners' sheet: fields parted by semicolons, and by no tab
abbrev pub is_row : Cut → Bool
is_row fields = ended_by semicolon fields && not (ended_by tab fields)

-- how many decimals field k of a line wants, where it is a number with a point: in a row of the sheet a power three and a factor five; index and R are neither
abbrev pub wanted : (row : Bool) → (k : ℕ) → ℕ
wanted row k = cond (row && not (eqb k 0 || eqb k 5)) (cond (ltb k 8) power_decimals factor_decimals) 0

-- the fields of a line from field k on, each repaired
abbrev pub repairs : (row : Bool) → (k : ℕ) → Cut → Cut
repairs row k (lastly f) = lastly (repaired true (wanted row k) f)
repairs row k (ended f stop rest) = ended (repaired false (wanted row k) f) stop (repairs row (k + 1) rest)

unfoldable pub line_tidied : (line : List ℕ) → List ℕ
line_tidied line = let fields = cut tab semicolon line in joined (repairs (is_row fields) 0 fields)

-- ---- lines
-- a line that has no byte but tabs and semicolons
abbrev pub bare : (line : List ℕ) → Bool
bare [] = true
bare (b ∷ s) = one_of tab semicolon b && bare s

-- a line with its LF above the lines that follow; a bare one goes where none follows
unfoldable pub above : (line rest : List ℕ) → List ℕ
above line rest = cond (empty rest && bare line) [] (line ++ (feed ∷ rest))

abbrev pub lines_tidied : Cut → List ℕ
lines_tidied (lastly line) = above (line_tidied line) []
lines_tidied (ended line stop rest) = above (line_tidied line) (lines_tidied rest)

-- ---- the text's begin
-- how many bytes a blank or a BOM has that a text begins with; 0 where it begins with none
abbrev pub mark : List ℕ → ℕ
mark s = cond (eqb (get_or s 0 0) blank) 1 (cond (eqb (get_or s 0 0) 239 && (eqb (get_or s 1 0) 187 && eqb (get_or s 2 0) 191)) 3 0)

-- a text without the first `most` of them
abbrev pub unmarked_by : (most : ℕ) → List ℕ → List ℕ
unmarked_by zero s = s
unmarked_by (suc most) s = unmarked_by most (drop (mark s) s)

-- without all of them: there are no more than the text has bytes
unfoldable pub unmarked : List ℕ → List ℕ
unmarked text = unmarked_by (length text) text

-- ---- the text
unfoldable pub tidied : (text : List ℕ) → List ℕ
tidied text = lines_tidied (cut feed feed (unmarked text))

-- what the open call leaves: 1 for a text that is too long, 8 where the room is too short
unfoldable pub tidy_left : (text out : List ℕ) → TextLeft
tidy_left text out = text_left (cond (ltb bytes_most (length text)) (Err too_long) (Ok (tidied text))) out
