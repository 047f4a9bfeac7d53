-- What each row's margin is made of, as text: a `V` line for each row.
use Rattle.std.specs.Prelude.{List, [], ◌∷◌, ℕ, ◌+◌, ◌*◌, ℤ, length, get_or}
use Prim.Native.Char.{code}
use Rattle.limits.specs.Limits.{rows_most}
use Rattle.types.specs.LineColumns.{Column, number, signed}
use Rattle.text.specs.Fields.{tab}
use Rattle.text.specs.Written.{lines_text}
use Rattle.columns.specs.declared.Head.TheVariants.{Indexed}
use Rattle.columns.specs.ColumnText.{columns_text}

-- the columns of a V line after the index, in the order of a record
abbrev pub parts_columns : List Column
parts_columns =
    number  -- state
    ∷ number  -- n
    ∷ signed  -- F0core, grains, as are all that follow
    ∷ signed  -- Fuaf
    ∷ signed  -- Base
    ∷ number  -- AMR
    ∷ number  -- S
    ∷ number  -- LTA margin
    ∷ number  -- CVA
    ∷ number  -- IVA
    ∷ signed  -- RAM
    ∷ signed  -- starting margin
    ∷ []

-- `V`, row index, and the twelve numbers
abbrev pub parts_line : (i : ℕ) → (raw : List ℤ) → List ℕ
parts_line i raw = columns_text tab (Indexed (code "V") i) parts_columns raw

abbrev pub parts_line_at : (records : List (List ℤ)) → (i : ℕ) → List ℕ
parts_line_at records i = parts_line i (get_or records i [])

-- a V line for each row
abbrev pub parts_text : (records : List (List ℤ)) → List ℕ
parts_text records = lines_text (length records) 0 (parts_line_at records)

-- no line of a judged table is longer: letter, an index of up to 3 digits, twelve numbers of up to 15 digits and a minus, and a tab or the LF after each
abbrev pub parts_line_most : ℕ
parts_line_most = 2 + 4 + 12 * 17

-- no text is longer: so many bytes are always enough
abbrev pub parts_most : ℕ
parts_most = rows_most * parts_line_most
