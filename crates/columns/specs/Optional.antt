-- Lines whose last columns may be left out, all of them or none: the fields that such a line may carry beyond those it always has.
-- Where they are left out their values are -1, which no unsigned field can be, so that the line is written again as it was.
-- `columns` are the columns that are always there, `more` those that may be left out; the first of `more` is a number.
use Rattle.std.specs.Prelude.{cond, List, ◌++◌, ℕ, ℤ, pos, length, get_or, replicate}
use Rattle.std.specs.Int.Signed.{lt_z}
use Rattle.numbers.specs.Ints.{minus}
use Rattle.types.specs.LineColumns.{Column}
use Rattle.columns.specs.declared.Head.{Head}
use Rattle.columns.specs.Columns.{Values, values, wrong}
use Rattle.columns.specs.ColumnLine.{columns_line}
use Rattle.columns.specs.ColumnText.{columns_text}

-- the values of k columns that were left out
abbrev pub left_out : (k : ℕ) → List ℤ
left_out k = replicate k (minus 1)

-- what was read by the shorter list, k columns left out; where that is wrong, what was read by the longer list, and its bad place
abbrev pub or_longer : (k : ℕ) → (shorter longer : Values) → Values
or_longer k (values zs next) longer = values (zs ++ left_out k) next
or_longer k (wrong place) longer = longer

-- a whole line
unfoldable pub optional_line : (sep : ℕ) → Head → (columns more : List Column) → (line : List ℕ) → Values
optional_line sep head columns more line = or_longer (length more) (columns_line sep head columns line) (columns_line sep head (columns ++ more) line)

-- the columns by which values are written: a value below 0 for the first of `more` says that these were left out
abbrev pub written_by : (columns more : List Column) → (zs : List ℤ) → List Column
written_by columns more zs = cond (lt_z (get_or zs (length columns) (pos 0)) (pos 0)) columns (columns ++ more)

-- a line as it is written
abbrev pub optional_text : (sep : ℕ) → Head → (columns more : List Column) → List ℤ → List ℕ
optional_text sep head columns more zs = columns_text sep head (written_by columns more zs) zs
