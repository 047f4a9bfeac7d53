-- The result text made from result records, as the open call `extract` fills them (01, "Result text"; 02, E7): a border's ATC, last round and stopping row; a row's state, RAM and margin left.
-- `records_text` and the lines of it are what contracts cite; the text of a result is that of its records (answer's specs/Result.antt).
use Rattle.std.specs.Prelude.{◌≡◌, ◌⊎◌, List, [], ◌∷◌, ◌++◌, ℕ, ◌+◌, ◌*◌, ℤ, length, get_or}
use Prim.Native.Char.{code}
use Rattle.limits.specs.Limits.{borders_most, rows_most}
use Rattle.types.specs.LineColumns.{Column, number, signed, share}
use Rattle.text.specs.Fields.{tab}
use Rattle.text.specs.Written.{decimal, line_text, lines_text}
use Rattle.columns.specs.declared.Head.TheVariants.{Indexed}
use Rattle.columns.specs.ColumnText.{line_length, columns_text}

-- the columns of an A line after the border's index; a record's -1 is written "-"
abbrev pub atc_columns : List Column
atc_columns =
    number  -- ATC, MW
    ∷ number  -- last round
    ∷ share  -- the row that stopped it, or "-"
    ∷ []

-- the columns of an M line after the row's index
abbrev pub margin_columns : List Column
margin_columns =
    number  -- state
    ∷ signed  -- RAM, grains
    ∷ share  -- margin left, grains, or "-" where the state isn't 0
    ∷ []

-- the columns of an A line or of an M line
abbrev pub ResultColumns : List Column → Type 0
ResultColumns columns = (columns ≡ atc_columns) ⊎ (columns ≡ margin_columns)

-- the line of record i: its letter, i, and its columns
abbrev pub record_line : (letter : ℕ) → List Column → (records : List (List ℤ)) → (i : ℕ) → List ℕ
record_line letter columns records i = columns_text tab (Indexed letter i) columns (get_or records i [])

-- how many bytes it has: the same for every letter
abbrev pub record_length : List Column → (i : ℕ) → (raw : List ℤ) → ℕ
record_length columns i raw = line_length (Indexed (code "A") i) columns raw

-- the lines of records, of border records and of row records
abbrev pub record_lines : (letter : ℕ) → List Column → (records : List (List ℤ)) → List ℕ
record_lines letter columns records = lines_text (length records) 0 (record_line letter columns records)

abbrev pub atc_at : (atcs : List (List ℤ)) → (b : ℕ) → List ℕ
atc_at atcs b = record_line (code "A") atc_columns atcs b

abbrev pub margin_at : (lefts : List (List ℤ)) → (i : ℕ) → List ℕ
margin_at lefts i = record_line (code "M") margin_columns lefts i

abbrev pub atc_lines : (atcs : List (List ℤ)) → List ℕ
atc_lines atcs = lines_text (length atcs) 0 (atc_at atcs)

abbrev pub margin_lines : (lefts : List (List ℤ)) → List ℕ
margin_lines lefts = lines_text (length lefts) 0 (margin_at lefts)

-- R, rounds
abbrev pub rounds_line : (rounds : ℕ) → List ℕ
rounds_line rounds = line_text (code "R") (decimal rounds ∷ [])

unfoldable pub records_text : (atcs lefts : List (List ℤ)) → (rounds : ℕ) → List ℕ
records_text atcs lefts rounds = atc_lines atcs ++ margin_lines lefts ++ rounds_line rounds

-- no line of 64-bit numbers is longer: a letter, at most four fields of up to 20 bytes with a tab before each, and the LF
abbrev pub result_line_most : ℕ
result_line_most = 1 + 4 * 21 + 1

-- no text of the most records is longer
abbrev pub records_most : ℕ
records_most = (borders_most + rows_most + 1) * result_line_most
