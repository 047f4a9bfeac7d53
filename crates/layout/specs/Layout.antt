-- The lines of the table as they are written (01, "The table as text"): H, Z, T, B and C, each by its columns; and rows as the planners' sheet has them (02, E11).
use Rattle.std.specs.Prelude.{List, [], ◌∷◌, ℕ, ℤ, pos, length, get_or}
use Prim.Native.Char.{code}
use Rattle.types.specs.declared.Header.{Header}
use Rattle.types.specs.LineColumns.{header_columns, default_columns, zone_columns, border_columns, hub_columns}
use Rattle.text.specs.Fields.{tab}
use Rattle.text.specs.Written.{lines_text}
use Rattle.columns.specs.declared.Head.TheVariants.{Lettered, Indexed}
use Rattle.columns.specs.ColumnText.{columns_text}
use Rattle.columns.specs.Optional.{optional_text}
use Rattle.tablerules.specs.Table.{stretch}
use Rattle.lines.specs.RowKinds.{row_text_by}
use Rattle.lines.specs.declared.row.RowKind.{RowKind}
use Rattle.lines.specs.declared.row.RowKind.TheVariants.{Table}

abbrev pub header_text : Header → List ℕ
header_text h = optional_text tab (Lettered (code "H")) header_columns default_columns (pos h.zones ∷ pos h.borders ∷ pos h.rows ∷ h.share ∷ [])

-- a net position: of a Z line, or of a T line (02, E12)
abbrev pub position_text : (letter i : ℕ) → (net : ℤ) → List ℕ
position_text letter i net = columns_text tab (Indexed letter i) zone_columns (net ∷ [])

abbrev pub zone_text : (i : ℕ) → (net : ℤ) → List ℕ
zone_text = position_text (code "Z")

abbrev pub allocated_text : (i : ℕ) → (net : ℤ) → List ℕ
allocated_text = position_text (code "T")

abbrev pub border_text : (i : ℕ) → (raw : List ℤ) → List ℕ
border_text i raw = optional_text tab (Indexed (code "B") i) border_columns hub_columns raw

abbrev pub row_text : (i : ℕ) → (raw factors : List ℤ) → List ℕ
row_text = row_text_by Table

-- a row's line by its kind, of lent rows
abbrev pub row_text_in : RowKind → (zones : ℕ) → (rows : List (List ℤ)) → (factors : List ℤ) → (i : ℕ) → List ℕ
row_text_in kind zones rows factors i = row_text_by kind i (get_or rows i []) (stretch zones factors i)

-- the lines of all rows, by their kind
abbrev pub rows_text_by : RowKind → (zones : ℕ) → (rows : List (List ℤ)) → (factors : List ℤ) → List ℕ
rows_text_by kind zones rows factors = lines_text (length rows) 0 (row_text_in kind zones rows factors)
