-- Writing the table (01, "The table as text"), and what the open call `write` leaves.
use Rattle.std.specs.Prelude.{List, [], ◌++◌, ℕ, ℤ, length, get_or, Ok}
use Prim.Native.Char.{code}
use Rattle.refusals.specs.Refusals.{then}
use Rattle.types.specs.Ranges.{at_ℤ, allocated_items}
use Rattle.text.specs.Left.{TextLeft, text_left}
use Rattle.text.specs.Written.{lines_text}
use Rattle.tablerules.specs.Table.{Table, factors_at, judge_lent}
use Rattle.lines.specs.declared.row.RowKind.TheVariants as row_kind
use Rattle.layout.specs.Layout.{header_text, position_text, zone_text, allocated_text, border_text, row_text, row_text_in, rows_text_by}

unfoldable pub table_text : Table → List ℕ
table_text t =
    header_text t.header
    ++ lines_text t.header.zones 0 (λ i. zone_text i (at_ℤ t.nets i))
    ++ lines_text (allocated_items t.header) 0 (λ i. allocated_text i (at_ℤ t.allocated i))
    ++ lines_text t.header.borders 0 (λ i. border_text i (get_or t.borders i []))
    ++ lines_text t.header.rows 0 (λ i. row_text i (get_or t.rows i []) (factors_at t i))

-- the open call `write`
unfoldable pub write_left : (lent : Table) → (out : List ℕ) → TextLeft
write_left lent out = text_left (then (judge_lent lent) (λ t. Ok (table_text t))) out

-- one line of each kind, by the lent records
abbrev pub position_text_at : (letter : ℕ) → (nets : List ℤ) → (i : ℕ) → List ℕ
position_text_at letter nets i = position_text letter i (at_ℤ nets i)

abbrev pub border_text_at : (borders : List (List ℤ)) → (i : ℕ) → List ℕ
border_text_at borders i = border_text i (get_or borders i [])

abbrev pub row_text_at : (zones : ℕ) → (rows : List (List ℤ)) → (factors : List ℤ) → (i : ℕ) → List ℕ
row_text_at = row_text_in row_kind.Table

-- all lines of each kind
abbrev pub positions_text : (letter : ℕ) → List ℤ → List ℕ
positions_text letter nets = lines_text (length nets) 0 (position_text_at letter nets)

abbrev pub zones_text : List ℤ → List ℕ
zones_text = positions_text (code "Z")

abbrev pub allocateds_text : List ℤ → List ℕ
allocateds_text = positions_text (code "T")

abbrev pub borders_text : List (List ℤ) → List ℕ
borders_text borders = lines_text (length borders) 0 (border_text_at borders)

abbrev pub rows_text : (zones : ℕ) → (rows : List (List ℤ)) → (factors : List ℤ) → List ℕ
rows_text = rows_text_by row_kind.Table
