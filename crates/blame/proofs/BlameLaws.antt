-- The laws of `specs/Blame.antt` that its code cites. No contract cites this file.
-- In order: one field; the loop over fields, `Blaming`; an index; a line's head.
use mathlib.Core.Path.{◌≡◌, refl, sym, ap, ◌∙◌}
use mathlib.Core.Bool.{true, false}
use mathlib.Core.List.{List, ◌∷◌}
use Prim.Native.Nat.{ℕ, suc, ◌+◌, ◌-◌, ◌≤◌, ◌<◌}
use native.Mathlib.Numerals.{add-one}
use native.Mathlib.Omega.{arith}
use lib.IntN.{ℤ}
use lib.ListN.{length, get_or, drop, length-drop, drop_of_length-le}
use lib.Seq.{drop-cons}
use borrow.Author.Tests.{le-leb, lt-leb, eq-eqb, ne_eqb}
use Rattle.types.specs.LineColumns.{Column, number, column_of, columns_of}
use Rattle.text.specs.Fields.{Parsed, feed, number_at}
use Rattle.columns.specs.declared.Head.{Head}
use Rattle.columns.specs.Columns.{field_at, stop_of}
use Rattle.columns.specs.ColumnLine.{begun}
use Rattle.columns.proofs.ColumnLaws.{stop_by_left, stop_is}
use Rattle.blame.specs.Blame.{good_at, byte_at, blamed, or_later, fields_byte, other_index, ended_byte, index_byte, byte_after, line_byte}
use Rattle.std.specs.Prelude.{Ok, Err, is_ok}

-- ---- one field
module _ (sep : ℕ) (c : Column) (line : List ℕ) (at : ℕ) where
  pub good_sep : is_ok (field_at c line at sep) ≡ true → true ≡ good_at sep c line at
  unfolding good_at
  good_sep e = rw e

  pub good_feed : is_ok (field_at c line at sep) ≡ false → is_ok (field_at c line at feed) ≡ good_at sep c line at
  unfolding good_at
  good_feed e = rw e

  module _ (place : ℕ) where
    pub byte_good : good_at sep c line at ≡ true → 0 ≡ byte_at sep c line at place
    unfolding byte_at
    byte_good e = rw e

    pub byte_here : good_at sep c line at ≡ false → place < length line → place + 1 ≡ byte_at sep c line at place
    unfolding byte_at
    byte_here e h = rw (e, lt-leb (length line) place h)

    pub byte_end : good_at sep c line at ≡ false → length line ≤ place → 0 ≡ byte_at sep c line at place
    unfolding byte_at
    byte_end e h = rw (e, le-leb (length line) place h)

-- ---- the loop: the first k fields are good, and those left begin at place p
module _ (sep : ℕ) (columns line : List ℕ) where
  pub record Blaming (at p k : ℕ) : Type 0 where
    pub high : k ≤ length columns
    pub so_far : fields_byte sep (columns_of (drop k columns)) line p ≡ fields_byte sep (columns_of columns) line at

  -- the field of the first column left
  abbrev pub field_left : (k p : ℕ) → Parsed ℤ
  field_left k p = field_at (column_of (get_or columns k 0)) line p (stop_by_left sep feed (length columns - k))

  module _ (k p : ℕ) (h : k < length columns) where
    first : (s : Parsed ℤ) → field_left k p ≡ s
        → fields_byte sep (columns_of (drop k columns)) line p ≡ or_later s (blamed sep (column_of (get_or columns k 0)) line p s) (λ next. fields_byte sep (columns_of (drop (k + 1) columns)) line next)
    unfolding fields_byte
    first s q =
        let bs = drop (k + 1) columns in
        let c = column_of (get_or columns k 0) in
        let long : length columns - k ≡ suc (length bs) = omega (arith, length-drop (k + 1) columns) in
        let cut : drop k columns ≡ get_or columns k 0 ∷ bs = drop-cons columns k 0 h ∙ ap (λ (j : ℕ). get_or columns k 0 ∷ drop j columns) (sym (add-one k)) in
        let e : field_at c line p (stop_of sep feed (columns_of bs)) ≡ s = ap (field_at c line p) (stop_is sep feed _ bs long) ∙ q in
        ap (λ (l : List ℕ). fields_byte sep (columns_of l) line p) cut
        ∙ ap (λ (f : Parsed ℤ). or_later f (blamed sep c line p f) (λ next. fields_byte sep (columns_of bs) line next)) e

  pub blaming_none : (at : ℕ) → Blaming at at 0
  blaming_none at = record { high = omega arith; so_far = refl }

  module _ (at p k : ℕ) (u : Blaming at p k) where
    pub blaming_all : length columns ≤ k → 0 ≡ fields_byte sep (columns_of columns) line at
    unfolding fields_byte
    blaming_all h = sym (ap (λ (l : List ℕ). fields_byte sep (columns_of l) line p) (drop_of_length-le columns h)) ∙ u.so_far

    module _ (h : k < length columns) where
      pub blaming_more : (z : ℤ) (next : ℕ) → field_left k p ≡ Ok (z, next) → Blaming at next (k + 1)
      blaming_more z next q = record { high = omega arith; so_far = sym (first k p h (Ok (z, next)) q) ∙ u.so_far }

      pub blaming_here : (place : ℕ) → field_left k p ≡ Err place → blamed sep (column_of (get_or columns k 0)) line p (Err place) ≡ fields_byte sep (columns_of columns) line at
      blaming_here place q = sym (first k p h (Err place) q) ∙ u.so_far

-- ---- an index that `sep` does not end
module _ (sep at : ℕ) (line : List ℕ) (i place : ℕ) where
  pub ended_other : other_index i (number_at line at feed) ≡ true → at + 1 ≡ ended_byte sep at line i place
  ended_other e = rw e

  pub ended_bad : other_index i (number_at line at feed) ≡ false → byte_at sep number line at place ≡ ended_byte sep at line i place
  ended_bad e = rw e

-- ---- an index, by what was read of it
module _ (sep at : ℕ) (columns : List Column) (line : List ℕ) (i : ℕ) where
  pub index_ended : (place : ℕ) → number_at line at sep ≡ Err place → ended_byte sep at line i place ≡ index_byte sep at columns line i (number_at line at sep)
  index_ended place q = rw q

  module _ (index next : ℕ) (q : number_at line at sep ≡ Ok (index, next)) where
    pub index_other : (index ≡ i → ⊥) → at + 1 ≡ index_byte sep at columns line i (number_at line at sep)
    index_other h = rw (q, ne_eqb index i h)

    pub index_fields : index ≡ i → fields_byte sep columns line next ≡ index_byte sep at columns line i (number_at line at sep)
    index_fields h = rw (q, eq-eqb index i h)

-- ---- a line's head
module _ (sep : ℕ) (head : Head) (columns : List Column) (line : List ℕ) where
  pub line_other : begun sep head line ≡ false → 0 ≡ line_byte sep head columns line
  unfolding line_byte
  line_other e = rw e

  pub line_after : begun sep head line ≡ true → byte_after sep head columns line ≡ line_byte sep head columns line
  unfolding line_byte
  line_after e = rw e
