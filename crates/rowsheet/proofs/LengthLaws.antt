-- How long a sheet gets (specs/RowSheet.antt): each line, and by the longest line all of them, so no more than 60,200 bytes (`sheet-most`), which
-- refusal 1 lets through (`sheet-short`). No contract cites this file.
use mathlib.Core.Path.{◌≡◌, refl}
use mathlib.Core.Bool.{true}
use mathlib.Core.List.{List, [], ◌∷◌, ◌++◌}
use Prim.Native.Nat.{ℕ, suc, ◌*◌, ◌/◌, ◌^◌, ◌≤◌, ◌<◌}
use native.Mathlib.Nat.{le_trans, mul-le-mul_right}
use native.Mathlib.Omega.{arith}
use lib.Dec.{lit≤}
use lib.IntN.{ℤ, pos, negsuc, nat_abs}
use lib.ListN.{length, get_or}
use Rattle.limits.specs.Limits.{zones_most, rows_most, bytes_most}
use Rattle.types.specs.LineColumns.{sheet_columns, sheet_factors}
use Rattle.types.specs.Ranges.{at_ℤ, row_of, row_fits, factor_fits}
use Rattle.types.proofs.RangeLaws.{row_in, factor_in}
use Rattle.text.specs.Written.{share_text}
use Rattle.text.specs.Point.{pointed_ℤ}
use Rattle.text.proofs.FieldTrip.{ShareKept}
use Rattle.text.proofs.WrittenLaws.{decimal_long}
use Rattle.text.proofs.PutLaws.{lines_most_lem}
use Rattle.text.proofs.PointLaws.{pointed_long}
use Rattle.columns.specs.declared.Head.TheVariants.{Bare}
use Rattle.columns.specs.ColumnText.{field_text, fields_length, numbers_of}
use Rattle.columns.proofs.ColumnPut.{line_long, length_parts}
use Rattle.tablerules.specs.Table.{row_good, stretch}
use Rattle.tablerules.proofs.GoodLaws.{row_good_lem, stretch_long}
use Rattle.lines.specs.declared.row.RowKind.TheVariants as row_kind
use Rattle.lines.proofs.RowTrip.{share_kept}
use Rattle.lines.specs.RowKinds.{semicolon}
use Rattle.lines.specs.SheetLine.{sheet_text}
use Rattle.layout.specs.Layout.{row_text_in, rows_text_by}

-- ten digits, a point and a minus
power_most : (z : ℤ) → nat_abs z < 10 ^ 10 → length (pointed_ℤ 3 z) ≤ 12
unfolding pointed_ℤ
power_most (pos n) h = omega (arith, pointed_long 3 n, decimal_long 6 (n / 10 ^ 3) (omega arith))
power_most (negsuc n) h = omega (arith, pointed_long 3 (suc n), decimal_long 6 (suc n / 10 ^ 3) (omega arith))

factor_most_lem : (z : ℤ) → nat_abs z < 10 ^ 10 → length (pointed_ℤ 5 z) ≤ 12
unfolding pointed_ℤ
factor_most_lem (pos n) h = omega (arith, pointed_long 5 n, decimal_long 4 (n / 10 ^ 5) (omega arith))
factor_most_lem (negsuc n) h = omega (arith, pointed_long 5 (suc n), decimal_long 4 (suc n / 10 ^ 5) (omega arith))

-- R is "-", or a number
share_most_lem : (r : ℤ) → ShareKept r → length (share_text r) ≤ 10
share_most_lem (pos n) h = decimal_long 9 n h
share_most_lem (negsuc n) h = omega arith

each_most : (zs : List ℤ) → ((z : ℕ) → z < length zs → factor_fits (at_ℤ zs z) ≡ true) → fields_length (sheet_factors (length zs)) zs ≤ length zs * 13
unfolding fields_length field_text
each_most [] h = omega arith
each_most (y ∷ zs) h = omega (arith, factor_most_lem y (omega (arith, (factor_in y (h 0 (omega arith))).abs)), each_most zs (λ z l. h (suc z) (omega arith)))

values_most : (values : List ℤ) → row_fits values ≡ true → fields_length sheet_columns (numbers_of sheet_columns values) ≤ 89
unfolding row_of fields_length field_text
values_most values e =
    let k = row_in values e in
    omega (
      arith,
      power_most (at_ℤ values 0) (omega (arith, k.fmax.most)),
      power_most (at_ℤ values 1) (omega (arith, k.fmax.most, k.frm.most)),
      power_most (at_ℤ values 2) (omega (arith, k.fref.abs)),
      power_most (at_ℤ values 3) (omega (arith, k.f0all.abs)),
      share_most_lem (at_ℤ values 4) (share_kept (at_ℤ values 4) k.share),
      power_most (at_ℤ values 5) (omega (arith, k.cva.most)),
      power_most (at_ℤ values 6) (omega (arith, k.iva.most)),
    )

-- the bytes of the longest line
abbrev pub line_most : ℕ
line_most = 301

pub line_most_lem : (i : ℕ) (values factors : List ℤ) → i < rows_most → row_good values factors ≡ true → length factors ≤ zones_most → length (sheet_text i values factors) ≤ line_most
line_most_lem i values factors l e few =
    let g = row_good_lem values factors e in
    rw (line_long semicolon (Bare i) (sheet_columns ++ sheet_factors (length factors)) (numbers_of sheet_columns values ++ factors))
    (omega (arith, length_parts sheet_columns (sheet_factors (length factors)) (numbers_of sheet_columns values) factors refl, values_most values g.0, each_most factors g.1, decimal_long 2 i (omega arith)))

-- the bytes of all lines, each the longest: 60,200
abbrev pub sheet_most : ℕ
sheet_most = rows_most * line_most

module _ (zones : ℕ) (rows : List (List ℤ)) (factors : List ℤ) (long : length factors ≡ length rows * zones) (z : zones ≤ zones_most) (r : length rows ≤ rows_most)
    (good : (i : ℕ) → i < length rows → row_good (get_or rows i []) (stretch zones factors i) ≡ true) where
  pub sheet_most_lem : length (rows_text_by row_kind.Sheet zones rows factors) ≤ sheet_most
  sheet_most_lem =
      let most = lines_most_lem (row_text_in row_kind.Sheet zones rows factors) (length rows) {q = line_most} (λ i l. line_most_lem i (get_or rows i []) (stretch zones factors i) (omega arith) (good i l) (omega (arith, stretch_long zones (length rows) factors long i l))) in
      le_trans most (mul-le-mul_right {m = length rows} {n = rows_most} line_most r)

  -- refusal 1 is not given of a sheet
  pub sheet_short : length (rows_text_by row_kind.Sheet zones rows factors) ≤ bytes_most
  sheet_short = le_trans sheet_most_lem (lit≤ {m = sheet_most} {n = bytes_most} tt)
