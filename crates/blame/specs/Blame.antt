-- The byte to blame in a line of wrong form (02, E5): bytes of a line count from 1, and 0 says that none is to blame.
-- `line_byte` is what contracts cite. Where the last columns of a line may be left out, its columns are all of them.
-- `sep` is the byte that parts the fields, a tab in the table. Left to others: values outside their range (`RangeBlame.antt`), and what these bytes have to
-- do with E5's words (crate faults, specs/FirstBad). A good line has 0, as has one that is wrong by its letter or by the number of its fields.
use Rattle.std.specs.Prelude.{Bool, true, false, cond, not, ◌||◌, List, [], ◌∷◌, ℕ, ℤ, ◌+◌, leb, eqb, length, Ok, Err, is_ok}
use Rattle.types.specs.LineColumns.{Column, number}
use Rattle.text.specs.Fields.{Parsed, feed, number_at}
use Rattle.columns.specs.declared.Head.{Head}
use Rattle.columns.specs.declared.Head.TheVariants.{Lettered, Indexed, Bare}
use Rattle.columns.specs.Columns.{field_at, stop_of}
use Rattle.columns.specs.ColumnLine.{begun}

-- the field at a place is good, whether `sep` or an LF ends it
unfoldable pub good_at : (sep : ℕ) → Column → (line : List ℕ) → (at : ℕ) → Bool
good_at sep c line at = is_ok (field_at c line at sep) || is_ok (field_at c line at feed)

-- the byte of a field that was found bad at `place`. 0 where the field itself is good, for then the fields are too few or too many; and 0 where `place` is
-- past the line's end
unfoldable pub byte_at : (sep : ℕ) → Column → (line : List ℕ) → (at place : ℕ) → ℕ
byte_at sep c line at place = cond (good_at sep c line at || leb (length line) place) 0 (place + 1)

-- the byte of what a field came to
abbrev pub blamed : (sep : ℕ) → Column → (line : List ℕ) → (at : ℕ) → Parsed ℤ → ℕ
blamed sep c line at (Ok (z, next)) = 0
blamed sep c line at (Err place) = byte_at sep c line at place

-- the byte of this field where it is bad, else the byte of the fields after it
abbrev pub or_later : Parsed ℤ → (here : ℕ) → (later : ℕ → ℕ) → ℕ
or_later (Ok (z, next)) here later = later next
or_later (Err place) here later = here

-- fields from the left: the first that is bad
unfoldable pub fields_byte : (sep : ℕ) → List Column → (line : List ℕ) → (at : ℕ) → ℕ
fields_byte sep [] line at = 0
fields_byte sep (c ∷ cs) line at =
    let found = field_at c line at (stop_of sep feed cs) in
    or_later found (blamed sep c line at found) (λ (next : ℕ). fields_byte sep cs line next)

-- an index of right form that is not the line's own
abbrev pub other_index : (i : ℕ) → Parsed ℕ → Bool
other_index i (Ok (index, next)) = not (eqb index i)
other_index i (Err place) = false

-- the byte of an index from place `at` on that `sep` does not end. An LF may end it: the fields after it are then missing, but the index stands left of them and
-- is judged first. An index that the text cuts off is not known to be wrong
abbrev pub ended_byte : (sep at : ℕ) → (line : List ℕ) → (i place : ℕ) → ℕ
ended_byte sep at line i place = cond (other_index i (number_at line at feed)) (at + 1) (byte_at sep number line at place)

-- the index as read before `sep`: its form, and then its value, which is bad at the field's first byte; and then the fields after it
abbrev pub index_byte : (sep at : ℕ) → List Column → (line : List ℕ) → (i : ℕ) → Parsed ℕ → ℕ
index_byte sep at columns line i (Ok (index, next)) = cond (eqb index i) (fields_byte sep columns line next) (at + 1)
index_byte sep at columns line i (Err place) = ended_byte sep at line i place

-- what follows a line's letter, where its head has one
abbrev pub byte_after : (sep : ℕ) → Head → List Column → (line : List ℕ) → ℕ
byte_after sep (Lettered letter) columns line = fields_byte sep columns line 2
byte_after sep (Indexed letter i) columns line = index_byte sep 2 columns line i (number_at line 2 sep)
byte_after sep (Bare i) columns line = index_byte sep 0 columns line i (number_at line 0 sep)

-- a line with its head and its columns
unfoldable pub line_byte : (sep : ℕ) → Head → List Column → (line : List ℕ) → ℕ
line_byte sep head columns line = cond (begun sep head line) (byte_after sep head columns line) 0
