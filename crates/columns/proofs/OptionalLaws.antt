-- The laws of `specs/Optional.antt` that the reader and the writer of columns that may be left out cite. No contract cites this file.
-- In order: a line read; the columns by which values are written.
use mathlib.Core.Path.{◌≡◌, refl, sym, ap, ap₂, ◌∙◌}
use mathlib.Core.Bool.{Bool, true, false, cond}
use mathlib.Core.List.{List, [], ◌∷◌, ◌++◌}
use Prim.Native.Nat.{ℕ, ◌+◌, ◌-◌, ◌≤◌, ◌<◌}
use native.Mathlib.Omega.{arith}
use lib.IntN.{ℤ, pos}
use lib.ListN.{length, get_or, take, drop, length-append, take-append-drop}
use lib.Seq.{take_at, take_all, length-take-le}
use lib.Signed.{lt_z}
use Rattle.types.specs.LineColumns.{Column, column_of, columns_of}
use Rattle.text.specs.Fields.{feed}
use Rattle.columns.specs.declared.Head.{Head}
use Rattle.columns.specs.Columns.{Values, values, wrong, stop_of}
use Rattle.columns.specs.ColumnLine.{columns_line}
use Rattle.columns.specs.ColumnText.{field_text, fields_ended, fields_length, head_text, head_length, columns_text, line_length}
use Rattle.columns.specs.Optional.{left_out, optional_line, written_by}
use Rattle.columns.proofs.ColumnPut.{columns_long}

left_is : (n : ℕ) (zs rest : List ℤ) (k : ℕ) → length zs ≡ n → length rest ≡ k → take n (zs ++ rest) ++ left_out (length (zs ++ rest) - n) ≡ zs ++ left_out k
left_is n zs rest k long more =
    let many : length (zs ++ rest) - n ≡ k = omega (arith, length-append zs rest) in
    ap₂ (λ (l : List ℤ) (m : ℕ). l ++ left_out m) (take_at zs rest n long) many

-- ---- a line read
module _ (sep : ℕ) (head : Head) (cs ds : List Column) (line : List ℕ) where
  optional-short : (zs ys : List ℤ) (next : ℕ) → values zs next ≡ columns_line sep head cs line → ys ≡ left_out (length ds) → values (zs ++ ys) next ≡ optional_line sep head cs ds line
  unfolding optional_line
  optional-short zs ys next e q = rw (← e, q)

  pub optional_first : (n : ℕ) (zs rest out : List ℤ) (next : ℕ) → length zs ≡ n → length rest ≡ length ds → out ≡ take n (zs ++ rest) ++ left_out (length (zs ++ rest) - n)
      → values zs next ≡ columns_line sep head cs line → values out next ≡ optional_line sep head cs ds line
  optional_first n zs rest out next long more is e =
      ap (λ (l : List ℤ). values l next) (is ∙ left_is n zs rest (length ds) long more) ∙ optional-short zs (left_out (length ds)) next e refl

  pub optional_long : (place : ℕ) (v : Values) → wrong place ≡ columns_line sep head cs line → v ≡ columns_line sep head (cs ++ ds) line → v ≡ optional_line sep head cs ds line
  unfolding optional_line
  optional_long place v e q = rw (← e) q

-- ---- the code's columns, in two parts
columns_append : (xs bs : List ℕ) → columns_of (xs ++ bs) ≡ columns_of xs ++ columns_of bs
columns_append [] bs = refl
columns_append (x ∷ xs) bs = ap (λ (l : List Column). column_of x ∷ l) (columns_append xs bs)

pub columns_split : (n : ℕ) (bs : List ℕ) → columns_of (take n bs) ++ columns_of (drop n bs) ≡ columns_of bs
columns_split n bs = sym (columns_append (take n bs) (drop n bs)) ∙ ap columns_of (take-append-drop n bs)

-- ---- values beyond the columns are not written
pub text_front : (sep last : ℕ) (cs : List Column) (zs : List ℤ) → fields_ended sep last cs (take (length cs) zs) ≡ fields_ended sep last cs zs
unfolding fields_ended
text_front sep last [] zs = refl
text_front sep last (c ∷ cs) [] = refl
text_front sep last (c ∷ cs) (z ∷ zs) = ap (λ (l : List ℕ). field_text c z ++ (stop_of sep last cs ∷ l)) (text_front sep last cs zs)

length_front : (cs : List Column) (zs : List ℤ) → fields_length cs (take (length cs) zs) ≡ fields_length cs zs
unfolding fields_length
length_front [] zs = refl
length_front (c ∷ cs) [] = refl
length_front (c ∷ cs) (z ∷ zs) = ap (λ (l : ℕ). length (field_text c z) + 1 + l) (length_front cs zs)

-- ---- the columns by which values are written, where the code takes k of them
module _ (columns : List ℕ) (n : ℕ) (zs : List ℤ) (h : n < length columns) (long : length columns ≡ length zs) (k : ℕ) (is : k ≡ cond (lt_z (get_or zs n (pos 0)) (pos 0)) n (length zs)) where
  abbrev by : List Column
  by = written_by (columns_of (take n columns)) (columns_of (drop n columns)) zs

  written_most : k ≤ length columns
  written_most = go (lt_z (get_or zs n (pos 0)) (pos 0)) is
    where
      go : (t : Bool) → k ≡ cond t n (length zs) → k ≤ length columns
      go true e = omega arith
      go false e = omega arith

  -- the fronts that are written have k items each
  pub front_columns : k ≡ length (take k columns)
  front_columns = sym (length-take-le k columns written_most)

  pub front_values : k ≡ length (take k zs)
  front_values = sym (length-take-le k zs (omega (arith, written_most, long)))

  pub written_by_lem : columns_of (take k columns) ≡ by
  written_by_lem = go (lt_z (get_or zs n (pos 0)) (pos 0)) is
      ∙ ap (λ (m : ℕ). cond (lt_z (get_or zs m (pos 0)) (pos 0)) (columns_of (take n columns)) (columns_of (take n columns) ++ columns_of (drop n columns)))
      (sym (columns_long (take n columns) ∙ length-take-le n columns (omega arith)))
    where
      go : (t : Bool) → k ≡ cond t n (length zs) → columns_of (take k columns) ≡ cond t (columns_of (take n columns)) (columns_of (take n columns) ++ columns_of (drop n columns))
      go true e = ap (λ (m : ℕ). columns_of (take m columns)) e
      go false e = ap columns_of (take_all k columns (omega arith)) ∙ sym (columns_split n columns)

  taken : length (columns_of (take k columns)) ≡ k
  taken = columns_long (take k columns) ∙ sym front_columns

  fields-by : (sep last : ℕ) → fields_ended sep last (columns_of (take k columns)) (take k zs) ≡ fields_ended sep last by zs
  fields-by sep last =
      ap (λ (m : ℕ). fields_ended sep last (columns_of (take k columns)) (take m zs)) (sym taken)
      ∙ text_front sep last (columns_of (take k columns)) zs
      ∙ ap (λ (l : List Column). fields_ended sep last l zs) written_by_lem

  pub length_by : (head : Head) → line_length head (columns_of (take k columns)) (take k zs) ≡ line_length head by zs
  length_by head =
      ap (λ (m : ℕ). head_length head + m)
      (ap (λ (m : ℕ). fields_length (columns_of (take k columns)) (take m zs)) (sym taken)
      ∙ length_front (columns_of (take k columns)) zs
      ∙ ap (λ (l : List Column). fields_length l zs) written_by_lem)

  pub line_by_lem : (sep : ℕ) (head : Head) → columns_text sep head (columns_of (take k columns)) (take k zs) ≡ columns_text sep head by zs
  unfolding columns_text
  line_by_lem sep head = ap (λ (l : List ℕ). head_text sep head ++ l) (fields-by sep feed)
