-- The laws of `specs/Columns.antt` and `specs/ColumnLine.antt` that the reader of columns cites. No contract cites this file.
-- In order: values put before others; the first column left; the loop, `FieldsFilled`; a line's head; a whole line; columns in two parts; a part of the code's columns.
use mathlib.Core.Path.{◌≡◌, refl, sym, ap, ◌∙◌}
use mathlib.Core.Bool.{Bool, true, false, cond}
use mathlib.Core.List.{List, [], ◌∷◌, ◌++◌, append_assoc, append-nil}
use Prim.Native.Nat.{ℕ, zero, suc, ◌+◌, ◌-◌, ◌≤◌, ◌<◌}
use native.Mathlib.Nat.{not-suc-le-zero}
use native.Mathlib.Numerals.{add-one}
use native.Mathlib.Omega.{arith}
use lib.Dec.{leb}
use lib.IntN.{ℤ}
use lib.ListN.{length, get_or, take, drop, set, length-set, length-drop, drop_of_length-le}
use lib.Seq.{drop-cons, take-suc-set, take_all}
use borrow.Author.Tests.{le-leb, lt-leb, eq-eqb, ne_eqb}
use Rattle.types.specs.LineColumns.{Column, column_of, columns_of}
use Rattle.text.specs.Fields.{Parsed, feed}
use Rattle.columns.specs.ColumnLine.{own_index, begun, numbered, head_at, to_end, rest_at, columns_line}
use Rattle.columns.specs.declared.Head.{Head}
use Rattle.columns.specs.Columns.{stored, field_at, Values, values, wrong, push, onward, stop_of, fields_at}
use Rattle.std.specs.Prelude.{Result, Ok, Err}

-- ---- values put before others
abbrev pub push_all : List ℤ → Values → Values
push_all zs (values ys next) = values (zs ++ ys) next
push_all zs (wrong place) = wrong place

push_none : (v : Values) → push_all [] v ≡ v
push_none (values ys next) = refl
push_none (wrong place) = refl

push_last : (zs : List ℤ) (z : ℤ) (v : Values) → push_all (zs ++ (z ∷ [])) v ≡ push_all zs (push z v)
push_last zs z (values ys next) = ap (λ (l : List ℤ). values l next) (append_assoc zs (z ∷ []) ys)
push_last zs z (wrong place) = refl

-- ---- the first column left, and the byte that ends its field
abbrev pub stop_by_left : (sep last left : ℕ) → ℕ
stop_by_left sep last left = cond (leb left 1) last sep

pub stop_is : (sep last left : ℕ) (bs : List ℕ) → left ≡ suc (length bs) → stop_of sep last (columns_of bs) ≡ stop_by_left sep last left
stop_is sep last left [] e = rw (le-leb left 1 (omega arith))
stop_is sep last left (b ∷ bs) e = rw (lt-leb left 1 (omega arith))

module _ (columns : List ℕ) (sep last : ℕ) (line : List ℕ) where
  module _ (k p : ℕ) (h : k < length columns) where
    first : fields_at sep last (columns_of (drop k columns)) line p
        ≡ onward (field_at (column_of (get_or columns k 0)) line p (stop_by_left sep last (length columns - k))) (λ next. fields_at sep last (columns_of (drop (k + 1) columns)) line next)
    unfolding fields_at
    first =
        let bs = drop (k + 1) columns in
        let long : length columns - k ≡ suc (length bs) = omega (arith, length-drop (k + 1) columns) in
        let cut : drop k columns ≡ get_or columns k 0 ∷ bs = drop-cons columns k 0 h ∙ ap (λ (j : ℕ). get_or columns k 0 ∷ drop j columns) (sym (add-one k)) in
        ap (λ (l : List ℕ). fields_at sep last (columns_of l) line p) cut
        ∙ ap (λ (stop : ℕ). onward (field_at (column_of (get_or columns k 0)) line p stop) (λ next. fields_at sep last (columns_of bs) line next)) (stop_is sep last _ bs long)

  -- ---- the loop: the first k fields are in their places, and those left begin at place p
  pub record FieldsFilled (at : ℕ) (out : List ℤ) (p k : ℕ) : Type 0 where
    pub as_long : length columns ≡ length out
    pub high : k ≤ length columns
    pub so_far : push_all (take k out) (fields_at sep last (columns_of (drop k columns)) line p) ≡ fields_at sep last (columns_of columns) line at

  pub fields_filled_none : (at : ℕ) (out : List ℤ) → length columns ≡ length out → FieldsFilled at out at 0
  fields_filled_none at out e = record { as_long = e; high = omega arith; so_far = push_none _ }

  module _ (at : ℕ) (out : List ℤ) (p k : ℕ) (u : FieldsFilled at out p k) where
    pub fields_filled_all : length columns ≤ k → values out p ≡ fields_at sep last (columns_of columns) line at
    unfolding fields_at
    fields_filled_all h =
        let none : drop k columns ≡ [] = drop_of_length-le columns h in
        ap (λ (l : List ℤ). values l p) (sym (take_all k out (omega (arith, u.as_long))) ∙ sym (append-nil (take k out)))
        ∙ sym (ap (λ (l : List ℕ). push_all (take k out) (fields_at sep last (columns_of l) line p)) none)
        ∙ u.so_far

    module _ (h : k < length columns) where
      step : (s : Parsed ℤ) → field_at (column_of (get_or columns k 0)) line p (stop_by_left sep last (length columns - k)) ≡ s
          → push_all (take k out) (onward s (λ next. fields_at sep last (columns_of (drop (k + 1) columns)) line next)) ≡ fields_at sep last (columns_of columns) line at
      step s q = rw (← q, ← first k p h) u.so_far

      pub fields_filled_bad : (place : ℕ) → field_at (column_of (get_or columns k 0)) line p (stop_by_left sep last (length columns - k)) ≡ Err place → wrong place ≡ fields_at sep last (columns_of columns) line at
      fields_filled_bad place q = step (Err place) q

      pub fields_filled_more : (z : ℤ) (next : ℕ) → field_at (column_of (get_or columns k 0)) line p (stop_by_left sep last (length columns - k)) ≡ Ok (z, next) → FieldsFilled at (set out k z) next (k + 1)
      fields_filled_more z next q =
          let rest = fields_at sep last (columns_of (drop (k + 1) columns)) line next in
          let l : k < length out = omega (arith, u.as_long) in
          record {
            as_long = u.as_long ∙ sym (length-set out k z);
            high = omega arith;
            so_far = ap (λ (m : ℕ). push_all (take m (set out k z)) rest) (add-one k)
                ∙ ap (λ (m : List ℤ). push_all m rest) (take-suc-set out k z l)
                ∙ push_last (take k out) z rest
                ∙ step (Ok (z, next)) q;
          }

-- ---- a line's head
module _ (sep : ℕ) (head : Head) (line : List ℕ) where
  pub head_bad : begun sep head line ≡ false → Err 0 ≡ head_at sep head line
  unfolding head_at
  head_bad e = rw e

  pub head_goes : begun sep head line ≡ true → numbered sep head line ≡ head_at sep head line
  unfolding head_at
  head_goes e = rw e

-- an index as it was found
module _ (first i index next : ℕ) where
  pub index_own : index ≡ i → Ok (index, next) ≡ own_index first i (Ok (index, next))
  index_own h = rw (eq-eqb index i h)

  pub index_other : (index ≡ i → ⊥) → Err first ≡ own_index first i (Ok (index, next))
  index_other h = rw (ne_eqb index i h)

-- ---- columns to the line's end, and a whole line
module _ (sep : ℕ) (columns : List Column) (line : List ℕ) where
  module _ (at : ℕ) where
    pub rest_bad : (place : ℕ) → wrong place ≡ fields_at sep feed columns line at → wrong place ≡ rest_at sep columns line at
    unfolding rest_at
    rest_bad place q = ap (to_end line) q

    module _ (zs : List ℤ) (next : ℕ) (q : values zs next ≡ fields_at sep feed columns line at) where
      pub rest_more : next < length line → wrong next ≡ rest_at sep columns line at
      unfolding rest_at
      rest_more h = rw (← q, lt-leb (length line) next h)

      pub rest_end : length line ≤ next → values zs next ≡ rest_at sep columns line at
      unfolding rest_at
      rest_end h = rw (← q, le-leb (length line) next h)

  module _ (head : Head) where
    pub line_bad : (place : ℕ) → head_at sep head line ≡ Err place → wrong place ≡ columns_line sep head columns line
    unfolding columns_line
    line_bad place q = rw q

    pub line_goes : (index at : ℕ) (v : Values) → head_at sep head line ≡ Ok (index, at) → v ≡ rest_at sep columns line at → v ≡ columns_line sep head columns line
    unfolding columns_line
    line_goes index at v q e = rw q e

-- ---- columns in two parts: the last field of the first part ends as any other field does
abbrev pub chain : Values → (ℕ → Values) → Values
chain (values zs next) rest = push_all zs (rest next)
chain (wrong place) rest = wrong place

push_chain : (z : ℤ) (v : Values) (rest : ℕ → Values) → push z (chain v rest) ≡ chain (push z v) rest
push_chain z (values zs next) rest = go (rest next)
  where
    go : (v : Values) → push z (push_all zs v) ≡ push_all (z ∷ zs) v
    go (values ys m) = refl
    go (wrong place) = refl
push_chain z (wrong place) rest = refl

module _ (sep last : ℕ) (line : List ℕ) (d : Column) (ds : List Column) where
  stop-sep : (cs : List Column) → stop_of sep last (cs ++ (d ∷ ds)) ≡ stop_of sep sep cs
  stop-sep [] = refl
  stop-sep (c ∷ cs) = refl

  fields-append : (cs : List Column) (at : ℕ) → fields_at sep last (cs ++ (d ∷ ds)) line at ≡ chain (fields_at sep sep cs line at) (λ next. fields_at sep last (d ∷ ds) line next)
  unfolding fields_at
  fields-append [] at = sym (push_none _)
  fields-append (c ∷ cs) at = rw (stop-sep cs) (go (λ next. fields-append cs next) (field_at c line at (stop_of sep sep cs)))
    where
      rest : ℕ → Values
      rest next = fields_at sep last (d ∷ ds) line next

      go : ((next : ℕ) → fields_at sep last (cs ++ (d ∷ ds)) line next ≡ chain (fields_at sep sep cs line next) rest)
          → (s : Parsed ℤ) → onward s (λ next. fields_at sep last (cs ++ (d ∷ ds)) line next) ≡ chain (onward s (λ next. fields_at sep sep cs line next)) rest
      go ih (Ok (z, next)) = ap (push z) (ih next) ∙ push_chain z (fields_at sep sep cs line next) rest
      go ih (Err place) = refl

module _ (sep : ℕ) (cs : List Column) (d : Column) (ds : List Column) (line : List ℕ) (at : ℕ) where
  -- the first part, and then the second to the line's end
  abbrev both : Values → Values
  both v = chain v (λ next. fields_at sep feed (d ∷ ds) line next)

  parts-bad : (place : ℕ) → wrong place ≡ fields_at sep sep cs line at → wrong place ≡ rest_at sep (cs ++ (d ∷ ds)) line at
  unfolding rest_at
  parts-bad place e = ap (λ (v : Values). to_end line (both v)) e ∙ ap (to_end line) (sym (fields-append sep feed line d ds cs at))

  parts_more : (zs : List ℤ) (next : ℕ) (v : Values) → values zs next ≡ fields_at sep sep cs line at → v ≡ rest_at sep (d ∷ ds) line next → push_all zs v ≡ rest_at sep (cs ++ (d ∷ ds)) line at
  unfolding rest_at
  parts_more zs next v e q =
      ap (push_all zs) q ∙ ended-last (fields_at sep feed (d ∷ ds) line next)
      ∙ ap (λ (w : Values). to_end line (both w)) e
      ∙ ap (to_end line) (sym (fields-append sep feed line d ds cs at))
    where
      ended-last : (w : Values) → push_all zs (to_end line w) ≡ to_end line (push_all zs w)
      ended-last (wrong place) = refl
      ended-last (values ys next) = sure (leb (length line) next)
        where
          sure : (t : Bool) → push_all zs (cond t (values ys next) (wrong next)) ≡ cond t (values (zs ++ ys) next) (wrong next)
          sure true = refl
          sure false = refl

-- what was stored of both parts
stored_parts : (f : Result ℕ ℕ) (zs ys : List ℤ) → push_all zs (stored f ys) ≡ stored f (zs ++ ys)
stored_parts (Ok next) zs ys = refl
stored_parts (Err place) zs ys = refl

-- columns in two parts, the second given as bytes of the code
module _ (sep : ℕ) (cs : List Column) (line : List ℕ) (at : ℕ) where
  pub part_bad : (bs : List ℕ) → 0 < length bs → (place : ℕ) → wrong place ≡ fields_at sep sep cs line at → wrong place ≡ rest_at sep (cs ++ columns_of bs) line at
  part_bad [] some place e = absurd (not-suc-le-zero some)
  part_bad (b ∷ bs) some place e = parts-bad sep cs (column_of b) (columns_of bs) line at place e

  pub part_more : (bs : List ℕ) → 0 < length bs → (zs ys : List ℤ) (next : ℕ) (f : Result ℕ ℕ) → values zs next ≡ fields_at sep sep cs line at → stored f ys ≡ rest_at sep (columns_of bs) line next → stored f (zs ++ ys) ≡ rest_at sep (cs ++ columns_of bs) line at
  part_more [] some zs ys next f e q = absurd (not-suc-le-zero some)
  part_more (b ∷ bs) some zs ys next f e q = sym (stored_parts f zs ys) ∙ parts_more sep cs (column_of b) (columns_of bs) line at zs next (stored f ys) e q

-- ---- a part of the code's columns
pub columns_take : (n : ℕ) (bs : List ℕ) → columns_of (take n bs) ≡ take n (columns_of bs)
columns_take zero bs = refl
columns_take (suc n) [] = refl
columns_take (suc n) (b ∷ bs) = ap (λ (l : List Column). column_of b ∷ l) (columns_take n bs)

pub columns_drop : (n : ℕ) (bs : List ℕ) → columns_of (drop n bs) ≡ drop n (columns_of bs)
columns_drop zero bs = refl
columns_drop (suc n) [] = refl
columns_drop (suc n) (b ∷ bs) = columns_drop n bs
