-- A line by its head and its columns (01, "The table as text"): the letter first, then the fields from the left, then the line's end.
-- The head is a letter, a letter and an index, or an index alone, as the planners' sheet has it (02, E11). `columns_line` is what contracts cite.
-- `sep` is the byte that parts the fields, a tab in the table; the last field ends in the line's LF.
use Rattle.std.specs.Prelude.{Bool, true, cond, List, ℕ, eqb, ℤ, Ok, Err}
use Rattle.types.specs.LineColumns.{Column}
use Rattle.text.specs.Fields.{Parsed, feed, number_at}
use Rattle.text.specs.Line.{Line, headed, ended}
use Rattle.columns.specs.declared.Head.{Head}
use Rattle.columns.specs.declared.Head.TheVariants.{Lettered, Indexed, Bare}
use Rattle.columns.specs.Columns.{Values, values, wrong, fields_at}
use Rattle.text.specs.declared.LineFault.TheVariants.{Form, Range}

-- an index that is not the line's own is bad where it begins
abbrev pub own_index : (first i : ℕ) → Parsed ℕ → Parsed ℕ
own_index first i (Ok (index, next)) = cond (eqb index i) (Ok (index, next)) (Err first)
own_index first i (Err place) = Err place

-- the line's own index from a place on, and the place after it
abbrev pub index_at : (sep at : ℕ) → (line : List ℕ) → (i : ℕ) → Parsed ℕ
index_at sep at line i = own_index at i (number_at line at sep)

-- a line begins with its head's letter, where the head has one; the letter's place is 0
abbrev pub begun : (sep : ℕ) → Head → (line : List ℕ) → Bool
begun sep (Lettered letter) line = headed letter sep line
begun sep (Indexed letter i) line = headed letter sep line
begun sep (Bare i) line = true

-- the index of a line's head, where the head has one; and the place after the head
abbrev pub numbered : (sep : ℕ) → Head → (line : List ℕ) → Parsed ℕ
numbered sep (Lettered letter) line = Ok (0, 2)
numbered sep (Indexed letter i) line = index_at sep 2 line i
numbered sep (Bare i) line = index_at sep 0 line i

-- a line's head, and the place after it
unfoldable pub head_at : (sep : ℕ) → Head → (line : List ℕ) → Parsed ℕ
head_at sep head line = cond (begun sep head line) (numbered sep head line) (Err 0)

-- nothing follows the columns
abbrev pub to_end : (line : List ℕ) → Values → Values
to_end line (values zs next) = cond (ended line next) (values zs next) (wrong next)
to_end line (wrong place) = wrong place

-- the columns from a place on, to the line's end
unfoldable pub rest_at : (sep : ℕ) → List Column → (line : List ℕ) → (at : ℕ) → Values
rest_at sep columns line at = to_end line (fields_at sep feed columns line at)

abbrev pub after_number : Parsed ℕ → (ℕ → Values) → Values
after_number (Ok (v, next)) rest = rest next
after_number (Err place) rest = wrong place

-- a whole line
unfoldable pub columns_line : (sep : ℕ) → Head → List Column → (line : List ℕ) → Values
columns_line sep head columns line = after_number (head_at sep head line) (λ (at : ℕ). rest_at sep columns line at)

-- form before range: what a line of these values comes to; `bad` is the byte to blame where the form is wrong, `out` where values are outside their range
abbrev pub judged : {A : Type 0} → (fits : List ℤ → Bool) → (make : List ℤ → A) → (bad : ℕ) → (out : List ℤ → ℕ) → Values → Line A
judged fits make bad out (values zs next) = cond (fits zs) (Ok (make zs)) (Err (Range (out zs)))
judged fits make bad out (wrong place) = Err (Form bad)
