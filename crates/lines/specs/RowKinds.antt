-- The kinds of line that hold a row: a C line of the table (01, "The table as text"), and a line of the planners' sheet (02, E11), which has no letter, its
-- fields parted by semicolons, powers in MW with three decimals and factors with five. They differ in the byte that parts the fields, in the head and in
-- the columns: what else is said of a line is said here of both, by its kind.
use Rattle.std.specs.Prelude.{List, ◌++◌, ℕ, ℤ, length}
use Prim.Native.Char.{code}
use Rattle.types.specs.LineColumns.{Column, row_columns, factor_columns, sheet_columns, sheet_factors}
use Rattle.types.specs.Ranges.{row_line_tests}
use Rattle.text.specs.Fields.{tab}
use Rattle.columns.specs.declared.Head.{Head}
use Rattle.columns.specs.declared.Head.TheVariants.{Indexed, Bare}
use Rattle.columns.specs.Columns.{Values}
use Rattle.columns.specs.ColumnLine.{columns_line}
use Rattle.columns.specs.ColumnText.{head_seps, columns_text, numbers_of}
use Rattle.blame.specs.Blame.{line_byte}
use Rattle.blame.specs.RangeBlame.{range_byte}
use Rattle.lines.specs.declared.row.RowKind.{RowKind}
use Rattle.lines.specs.declared.row.RowKind.TheVariants.{Table, Sheet}

-- ---- what they differ in
abbrev pub semicolon : ℕ
semicolon = code ";"

abbrev pub sep_by : RowKind → ℕ
sep_by Table = tab
sep_by Sheet = semicolon

abbrev pub head_by : RowKind → (i : ℕ) → Head
head_by Table i = Indexed (code "C") i
head_by Sheet i = Bare i

-- the columns: index, Fmax, FRM, Fref, F0all, R or "-", CVA, IVA, then one factor per zone
abbrev pub first_by : RowKind → List Column
first_by Table = row_columns
first_by Sheet = sheet_columns

abbrev pub factors_by : RowKind → (zones : ℕ) → List Column
factors_by Table = factor_columns
factors_by Sheet = sheet_factors

-- ---- the line
abbrev pub columns_by : RowKind → (zones : ℕ) → List Column
columns_by kind zones = first_by kind ++ factors_by kind zones

abbrev pub values_by : RowKind → (zones : ℕ) → (line : List ℕ) → (i : ℕ) → Values
values_by kind zones line i = columns_line (sep_by kind) (head_by kind i) (columns_by kind zones) line

-- the bytes to blame, where the form is wrong and where a value is outside its range
abbrev pub bad_by : RowKind → (zones : ℕ) → (line : List ℕ) → (i : ℕ) → ℕ
bad_by kind zones line i = line_byte (sep_by kind) (head_by kind i) (columns_by kind zones) line

abbrev pub out_by : RowKind → (line : List ℕ) → (values factors : List ℤ) → ℕ
out_by kind line values factors = range_byte (sep_by kind) (row_line_tests values factors) (head_seps (head_by kind 0)) line

-- a row's line as it is written
abbrev pub row_text_by : RowKind → (i : ℕ) → (raw factors : List ℤ) → List ℕ
row_text_by kind i raw factors = columns_text (sep_by kind) (head_by kind i) (columns_by kind (length factors)) (numbers_of row_columns raw ++ factors)
