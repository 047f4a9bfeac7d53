-- The columns of a row's line, whichever its kind: how many they are, and the parts of the code's list, which has as many as the most zones ask for.
-- In order: how many; the factors of fewer zones; the code's list and its parts; what is read and written by them. No contract cites this file.
use mathlib.Core.Path.{◌≡◌, refl, sym, ap, ap₂, ◌∙◌}
use mathlib.Core.List.{List, ◌∷◌, ◌++◌}
use Prim.Native.Nat.{ℕ, zero, suc, ◌+◌, ◌-◌, ◌≤◌}
use native.Mathlib.Nat.{not-suc-le-zero}
use native.Mathlib.Omega.{arith}
use lib.ListN.{length, take, drop}
use lib.Seq.{take-add, take_at, drop_at}
use Rattle.numbers.proofs.ListLaws.{part_long}
use Rattle.limits.specs.Limits.{zones_most}
use Rattle.types.specs.LineColumns.{Column, signed, factor, row_items, columns_of}
use Rattle.columns.specs.declared.Head.{Head}
use Rattle.columns.specs.declared.Head.TheVariants.{Lettered, Indexed, Bare}
use Rattle.columns.specs.ColumnText.{head_seps}
use Rattle.columns.proofs.ColumnLaws.{columns_take, columns_drop}
use Rattle.columns.proofs.ColumnPut.{columns_long}
use Rattle.lines.specs.RowKinds.{sep_by, head_by, first_by, factors_by, columns_by}
use Rattle.lines.specs.declared.row.RowKind.{RowKind}
use Rattle.lines.specs.declared.row.RowKind.TheVariants.{Table, Sheet}

-- ---- how many
first_many : (kind : RowKind) → length (first_by kind) ≡ row_items
first_many Table = refl
first_many Sheet = refl

factors_many : (kind : RowKind) (zones : ℕ) → length (factors_by kind zones) ≡ zones
factors_many Table zero = refl
factors_many Sheet zero = refl
factors_many Table (suc zones) = ap suc (factors_many Table zones)
factors_many Sheet (suc zones) = ap suc (factors_many Sheet zones)

pub columns_many : (kind : RowKind) (zones : ℕ) → length (columns_by kind zones) ≡ row_items + zones
columns_many Table zones = omega (arith, factors_many Table zones)
columns_many Sheet zones = omega (arith, factors_many Sheet zones)

-- ---- the factors of fewer zones
factors_front : (kind : RowKind) (n m : ℕ) → n ≤ m → take n (factors_by kind m) ≡ factors_by kind n
factors_front Table zero m h = refl
factors_front Sheet zero m h = refl
factors_front kind (suc n) zero h = absurd (not-suc-le-zero h)
factors_front Table (suc n) (suc m) h = ap (λ (l : List Column). signed ∷ l) (factors_front Table n m (omega arith))
factors_front Sheet (suc n) (suc m) h = ap (λ (l : List Column). factor ∷ l) (factors_front Sheet n m (omega arith))

-- ---- the code's list
module _ (kind : RowKind) (bs : List ℕ) (all : columns_of bs ≡ columns_by kind zones_most) where
  pub letters_long : length bs ≡ row_items + zones_most
  letters_long = sym (columns_long bs) ∙ ap length all ∙ columns_many kind zones_most

  front : take row_items (columns_by kind zones_most) ≡ first_by kind
  front = take_at (first_by kind) (factors_by kind zones_most) row_items (first_many kind)

  back : drop row_items (columns_by kind zones_most) ≡ factors_by kind zones_most
  back = drop_at (first_by kind) (factors_by kind zones_most) row_items (first_many kind)

  letters-first : columns_of (take row_items bs) ≡ first_by kind
  letters-first = columns_take row_items bs ∙ ap (take row_items) all ∙ front

  module _ (n : ℕ) (h : n ≤ zones_most) where
    letters-all : columns_of (take (row_items + n) bs) ≡ columns_by kind n
    letters-all =
        columns_take (row_items + n) bs ∙ ap (take (row_items + n)) all ∙ take-add row_items n (columns_by kind zones_most)
        ∙ ap₂ (λ (x y : List Column). x ++ y) front (ap (take n) back ∙ factors_front kind n zones_most h)

    letters-factors : columns_of (take (row_items + n - row_items) (drop row_items bs)) ≡ factors_by kind n
    letters-factors =
        let m : row_items + n - row_items ≡ n = omega arith in
        ap (λ (k : ℕ). columns_of (take k (drop row_items bs))) m ∙ columns_take n (drop row_items bs)
        ∙ ap (take n) (columns_drop row_items bs ∙ ap (drop row_items) all ∙ back) ∙ factors_front kind n zones_most h

    pub letters_many : length (take (row_items + n - row_items) (drop row_items bs)) ≡ n
    letters_many = part_long bs row_items n (omega (arith, letters_long))

-- ---- what depends on the three that the kinds differ in, by the code's
module _ {A : Type 0} (f : ℕ → Head → List Column → A) (kind : RowKind) (i n : ℕ) (h : n ≤ zones_most) {sep : ℕ} {head : Head} (s : sep ≡ sep_by kind) (e : head ≡ head_by kind i) (bs : List ℕ) (all : columns_of bs ≡ columns_by kind zones_most) where
  by_kind : {columns : List Column} → columns ≡ columns_by kind n → f sep head columns ≡ f (sep_by kind) (head_by kind i) (columns_by kind n)
  by_kind {columns} q = ap₂ (λ (x : ℕ) (y : Head). f x y columns) s e ∙ ap (f (sep_by kind) (head_by kind i)) q

  pub whole_by : f sep head (columns_of (take (row_items + n) bs)) ≡ f (sep_by kind) (head_by kind i) (columns_by kind n)
  whole_by = by_kind (letters-all kind bs all n h)

  pub parts_by_lem : (ds : List ℕ) → columns_of ds ≡ columns_by kind zones_most
      → f sep head (columns_of (take row_items bs) ++ columns_of (take (row_items + n - row_items) (drop row_items ds))) ≡ f (sep_by kind) (head_by kind i) (columns_by kind n)
  parts_by_lem ds more = by_kind (ap₂ (λ (x y : List Column). x ++ y) (letters-first kind bs all) (letters-factors kind ds more n h))

pub seps_few : (head : Head) → head_seps head ≤ 2
seps_few (Lettered letter) = omega arith
seps_few (Indexed letter i) = omega arith
seps_few (Bare i) = omega arith
