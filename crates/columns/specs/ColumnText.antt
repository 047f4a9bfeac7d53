-- The fields of columns as they are written (01, "The table as text"): each with the byte that ends it, and lines of them.
-- `sep` is the byte that parts the fields, a tab in the table; the last field ends in the line's LF.
use Rattle.std.specs.Prelude.{List, [], ◌∷◌, ◌++◌, ℕ, suc, ◌+◌, ℤ, pos, length, get_or, drop}
use Rattle.types.specs.LineColumns.{Column, number, signed, share, power, flow, factor}
use Rattle.text.specs.Fields.{feed}
use Rattle.text.specs.Written.{decimal, decimal_ℤ, share_text}
use Rattle.text.specs.Point.{pointed_ℤ}
use Rattle.columns.specs.declared.Head.{Head}
use Rattle.columns.specs.declared.Head.TheVariants.{Lettered, Indexed, Bare}
use Rattle.columns.specs.Columns.{power_decimals, factor_decimals, stop_of}

-- a column's field
unfoldable pub field_text : Column → ℤ → List ℕ
field_text number z = decimal_ℤ z
field_text signed z = decimal_ℤ z
field_text share z = share_text z
field_text power z = pointed_ℤ power_decimals z
field_text flow z = pointed_ℤ power_decimals z
field_text factor z = pointed_ℤ factor_decimals z

-- the fields of columns, one value of zs for each (0 where zs is too short)
unfoldable pub fields_ended : (sep last : ℕ) → List Column → (zs : List ℤ) → List ℕ
fields_ended sep last [] zs = []
fields_ended sep last (c ∷ cs) zs = field_text c (get_or zs 0 (pos 0)) ++ (stop_of sep last cs ∷ fields_ended sep last cs (drop 1 zs))

-- how many bytes they have
unfoldable pub fields_length : List Column → (zs : List ℤ) → ℕ
fields_length [] zs = 0
fields_length (c ∷ cs) zs = length (field_text c (get_or zs 0 (pos 0))) + 1 + fields_length cs (drop 1 zs)

-- a line's index
unfoldable pub index_text : (sep i : ℕ) → List ℕ
index_text sep i = decimal i ++ (sep ∷ [])

-- a line's head
unfoldable pub head_text : (sep : ℕ) → Head → List ℕ
head_text sep (Lettered letter) = letter ∷ sep ∷ []
head_text sep (Indexed letter i) = letter ∷ sep ∷ index_text sep i
head_text sep (Bare i) = index_text sep i

-- how many bytes it has: the same for every letter
abbrev pub head_length : Head → ℕ
head_length (Lettered letter) = 2
head_length (Indexed letter i) = 3 + length (decimal i)
head_length (Bare i) = 1 + length (decimal i)

-- how many of the bytes that part fields it has
abbrev pub head_seps : Head → ℕ
head_seps (Lettered letter) = 1
head_seps (Indexed letter i) = 2
head_seps (Bare i) = 1

-- a line: its head and its columns
unfoldable pub columns_text : (sep : ℕ) → Head → List Column → List ℤ → List ℕ
columns_text sep head columns zs = head_text sep head ++ fields_ended sep feed columns zs

abbrev pub line_length : Head → List Column → (zs : List ℤ) → ℕ
line_length head columns zs = head_length head + fields_length columns zs

-- the numbers of a raw record by their columns, from number k on: one for each column (0 where the record is too short)
abbrev pub numbers_from : (k : ℕ) → List Column → (raw : List ℤ) → List ℤ
numbers_from k [] raw = []
numbers_from k (c ∷ cs) raw = get_or raw k (pos 0) ∷ numbers_from (suc k) cs raw

abbrev pub numbers_of : List Column → (raw : List ℤ) → List ℤ
numbers_of columns raw = numbers_from 0 columns raw
