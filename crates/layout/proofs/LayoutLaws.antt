-- The laws of `specs/Layout.antt`'s lengths. No contract cites this file.
use mathlib.Core.Path.{◌≡◌, ap, ◌∙◌}
use mathlib.Core.Bool.{true}
use mathlib.Core.List.{List, [], ◌∷◌, ◌++◌}
use Prim.Native.Nat.{ℕ}
use native.Mathlib.Omega.{arith}
use lib.IntN.{ℤ, pos}
use lib.ListN.{length}
use mir.Facts.{to_z-of_z}
use mir.Syntax.{w64}
use mir.Val.{to_z, of_z}
use Rattle.numbers.proofs.IntLaws.{within_fits}
use Rattle.types.specs.declared.Header.{Header}
use Rattle.types.specs.Ranges.{header_fits}
use Rattle.types.proofs.RangeLaws.{header_in_lem, raw_share_in}
use Rattle.text.proofs.FieldLaws.{read_back}
use Rattle.types.specs.LineColumns.{row_columns, row_items}
use Rattle.columns.specs.ColumnText.{columns_text, line_length}
use Rattle.columns.proofs.ColumnPut.{numbers_are, line_long}
use Rattle.lines.specs.RowKinds.{sep_by, head_by, columns_by, row_text_by}
use Rattle.lines.specs.declared.row.RowKind.{RowKind}

-- a row's line is its values and its factors, by its columns
module _ (kind : RowKind) (i : ℕ) (raw f : List ℤ) (wide : length raw ≡ row_items) where
  pub row_is : row_text_by kind i raw f ≡ columns_text (sep_by kind) (head_by kind i) (columns_by kind (length f)) (raw ++ f)
  row_is = ap (λ (v : List ℤ). columns_text (sep_by kind) (head_by kind i) (columns_by kind (length f)) (v ++ f)) (numbers_are row_columns raw wide)

  pub row_total : length (row_text_by kind i raw f) ≡ line_length (head_by kind i) (columns_by kind (length f)) (raw ++ f)
  row_total = ap length row_is ∙ line_long (sep_by kind) (head_by kind i) (columns_by kind (length f)) (raw ++ f)

-- a header's numbers as 64-bit values
pub header_raw_lem : (h : Header) → header_fits h ≡ true → to_z w64 h.zones ∷ to_z w64 h.borders ∷ to_z w64 h.rows ∷ to_z w64 (of_z w64 h.share) ∷ [] ≡ pos h.zones ∷ pos h.borders ∷ pos h.rows ∷ h.share ∷ []
header_raw_lem h e =
    let i = header_in_lem h e in
    rw (read_back h.zones (omega (arith, i.zones_most_lem)), read_back h.borders (omega (arith, i.borders_most_lem)), read_back h.rows (omega (arith, i.rows_most_lem)), to_z-of_z (within_fits (raw_share_in h.share i.share) tt))
