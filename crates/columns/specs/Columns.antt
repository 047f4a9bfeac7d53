-- The fields of a list of columns (01, "The table as text"), read from left to right; which columns a line has is said in types, specs/LineColumns.antt.
-- `field_at` and `fields_at` are what contracts cite. Left to others: the letter, the index and the end of the line (`ColumnLine.antt`), and ranges.
use Rattle.std.specs.Prelude.{List, [], ◌∷◌, false, ℕ, ℤ, Result, Ok, Err}
use Rattle.types.specs.LineColumns.{Column, number, signed, share, power, flow, factor}
use Rattle.text.specs.Fields.{Parsed, number_at, positive, signed_at, share_at}
use Rattle.text.specs.Point.{point_at, signed_point_at}

-- the decimals of a power, and of a factor, in the planners' sheet (02, E11)
abbrev pub power_decimals : ℕ
power_decimals = 3

abbrev pub factor_decimals : ℕ
factor_decimals = 5

-- a column's field at a place, ended by `stop`
unfoldable pub field_at : Column → (line : List ℕ) → (at stop : ℕ) → Parsed ℤ
field_at number line at stop = positive (number_at line at stop)
field_at signed line at stop = signed_at line at stop
field_at share line at stop = share_at line at stop
field_at power line at stop = positive (point_at false power_decimals line at stop)
field_at flow line at stop = signed_point_at power_decimals line at stop
field_at factor line at stop = signed_point_at factor_decimals line at stop

-- what fields come to: their values from left to right and the place after them; or the first place that no good line could have
pub data Values : Type 0 where
  values : List ℤ → ℕ → Values
  wrong : ℕ → Values

abbrev pub push : ℤ → Values → Values
push z (values zs next) = values (z ∷ zs) next
push z (wrong place) = wrong place

abbrev pub onward : Parsed ℤ → (ℕ → Values) → Values
onward (Ok (z, next)) rest = push z (rest next)
onward (Err place) rest = wrong place

-- the byte that ends a field: `sep` where a column follows it, else `last`
abbrev pub stop_of : (sep last : ℕ) → (after : List Column) → ℕ
stop_of sep last [] = last
stop_of sep last (c ∷ cs) = sep

-- the fields of columns, from a place of a line on
unfoldable pub fields_at : (sep last : ℕ) → List Column → (line : List ℕ) → (at : ℕ) → Values
fields_at sep last [] line at = values [] at
fields_at sep last (c ∷ cs) line at = onward (field_at c line at (stop_of sep last cs)) (λ (next : ℕ). fields_at sep last cs line next)

-- what the code answers, with what it stored: where the fields are bad, what was stored says nothing
abbrev pub stored : Result ℕ ℕ → List ℤ → Values
stored (Ok next) zs = values zs next
stored (Err place) zs = wrong place
