-- The laws of `specs/ColumnText.antt` that the writer of columns cites, here and in the crates above. No contract cites this file.
-- In order: one field's text; the first column left; the loop that writes, `Writing`; the loop that counts, `Counting`; lengths; two parts.
use mathlib.Core.Path.{◌≡◌, refl, sym, ap, ap₂, subst, ◌∙◌}
use mathlib.Core.Bool.{Bool, true, false, cond}
use mathlib.Core.List.{List, [], ◌∷◌, ◌++◌, append_assoc, append-nil}
use Prim.Native.Nat.{ℕ, suc, ◌+◌, ◌-◌, ◌≤◌, ◌<◌}
use native.Mathlib.Nat.{add-zero, zero-add, not-suc-le-zero}
use native.Mathlib.Numerals.{add-one}
use native.Mathlib.Omega.{arith}
use lib.Dec.{eqb}
use lib.IntN.{ℤ, pos, negsuc}
use lib.ListN.{length, get_or, drop, length-append, length-drop, drop_of_length-le}
use lib.Seq.{drop-cons}
use lib.Signed.{lt_z}
use borrow.Author.Tests.{ne_eqb, ltb-true}
use Rattle.types.specs.LineColumns.{Column, number, signed, column_of, columns_of}
use Rattle.text.specs.Fields.{feed, dash}
use Rattle.text.specs.Written.{decimal, decimal_ℤ, share_text}
use Rattle.text.specs.Point.{pointed_ℤ}
use Rattle.text.specs.Put.{Put}
use Rattle.text.proofs.NumberTrip.{zero_one}
use Rattle.text.proofs.PutLaws.{put_none, put_more, put_room}
use Rattle.columns.specs.declared.Head.{Head}
use Rattle.columns.specs.declared.Head.TheVariants.{Lettered, Indexed, Bare}
use Rattle.columns.specs.Columns.{stop_of}
use Rattle.columns.specs.ColumnText.{numbers_from, numbers_of, field_text, fields_ended, fields_length, index_text, head_text, head_length, columns_text, line_length}
use Rattle.columns.proofs.ColumnLaws.{stop_by_left, stop_is}

-- ---- one field's text
pub share_dash : (z : ℤ) → lt_z z (pos 0) ≡ true → share_text z ≡ dash ∷ []
share_dash (pos n) e = absurd (omega (arith, ltb-true n 0 e))
share_dash (negsuc n) e = refl

pub share_number : (z : ℤ) → lt_z z (pos 0) ≡ false → share_text z ≡ decimal_ℤ z
unfolding decimal_ℤ
share_number (pos n) e = refl
share_number (negsuc n) e = absurd (zero_one (ap (λ (t : Bool). cond t 0 1) e))

pub value_share : (b : ℕ) (z : ℤ) → b ≡ 114 → field_text (column_of b) z ≡ share_text z
unfolding field_text
value_share b z e = rw e

pub value_power : (b : ℕ) (z : ℤ) → b ≡ 112 → field_text (column_of b) z ≡ pointed_ℤ 3 z
unfolding field_text
value_power b z e = rw e

pub value_flow : (b : ℕ) (z : ℤ) → b ≡ 113 → field_text (column_of b) z ≡ pointed_ℤ 3 z
unfolding field_text
value_flow b z e = rw e

pub value_factor : (b : ℕ) (z : ℤ) → b ≡ 102 → field_text (column_of b) z ≡ pointed_ℤ 5 z
unfolding field_text
value_factor b z e = rw e

pub value_plain : (b : ℕ) (z : ℤ) → (b ≡ 114 → ⊥) → (b ≡ 112 → ⊥) → (b ≡ 113 → ⊥) → (b ≡ 102 → ⊥) → field_text (column_of b) z ≡ decimal_ℤ z
unfolding field_text
value_plain b z r p q f = rw (ne_eqb b 114 r, ne_eqb b 112 p, ne_eqb b 113 q, ne_eqb b 102 f) (go (eqb b 115))
  where
    go : (t : Bool) → field_text (cond t signed number) z ≡ decimal_ℤ z
    go true = refl
    go false = refl

module _ (columns : List ℕ) (values : List ℤ) where
  -- the field of column k
  abbrev pub text_at : ℕ → List ℕ
  text_at k = field_text (column_of (get_or columns k 0)) (get_or values k (pos 0))

  -- ---- the first column left
  module _ (long : length columns ≡ length values) (k : ℕ) (h : k < length columns) where
    cut : drop k columns ≡ get_or columns k 0 ∷ drop (k + 1) columns
    cut = drop-cons columns k 0 h ∙ ap (λ (j : ℕ). get_or columns k 0 ∷ drop j columns) (sym (add-one k))

    cut_values : drop k values ≡ get_or values k (pos 0) ∷ drop (k + 1) values
    cut_values = drop-cons values k (pos 0) (omega (arith, long)) ∙ ap (λ (j : ℕ). get_or values k (pos 0) ∷ drop j values) (sym (add-one k))

    first-text : (sep last : ℕ) → fields_ended sep last (columns_of (drop k columns)) (drop k values)
        ≡ (text_at k ++ (stop_by_left sep last (length columns - k) ∷ [])) ++ fields_ended sep last (columns_of (drop (k + 1) columns)) (drop (k + 1) values)
    unfolding fields_ended
    first-text sep last =
        let bs = drop (k + 1) columns in
        let rest = fields_ended sep last (columns_of bs) (drop (k + 1) values) in
        let left : length columns - k ≡ suc (length bs) = omega (arith, length-drop (k + 1) columns) in
        ap₂ (λ (l : List ℕ) (v : List ℤ). fields_ended sep last (columns_of l) v) cut cut_values
        ∙ ap (λ (stop : ℕ). text_at k ++ (stop ∷ rest)) (stop_is sep last _ bs left)
        ∙ sym (append_assoc (text_at k) (stop_by_left sep last (length columns - k) ∷ []) rest)

    first-length : fields_length (columns_of (drop k columns)) (drop k values) ≡ length (text_at k) + 1 + fields_length (columns_of (drop (k + 1) columns)) (drop (k + 1) values)
    unfolding fields_length
    first-length = ap₂ (λ (l : List ℕ) (v : List ℤ). fields_length (columns_of l) v) cut cut_values

  -- ---- the loop that writes: the fields before column k are written
  module _ (sep last at : ℕ) (out₀ : List ℕ) where
    abbrev left : ℕ → List ℕ
    left k = fields_ended sep last (columns_of (drop k columns)) (drop k values)

    pub record Writing (out : List ℕ) (next k : ℕ) : Type 0 where
      pub high : k ≤ length columns
      pub done : List ℕ
      pub put : Put done at out₀ next out
      pub rest : done ++ left k ≡ fields_ended sep last (columns_of columns) values

    pub writing_none : Writing out₀ at 0
    writing_none = record { high = omega arith; done = []; put = put_none at out₀; rest = refl }

    module _ (out : List ℕ) (next k : ℕ) (u : Writing out next k) where
      pub writing_all : length columns ≤ k → Put (fields_ended sep last (columns_of columns) values) at out₀ next out
      unfolding fields_ended
      writing_all h =
          let none : drop k columns ≡ [] = drop_of_length-le columns h in
          let is : u.done ≡ fields_ended sep last (columns_of columns) values = sym (append-nil u.done) ∙ sym (ap (λ (l : List ℕ). u.done ++ fields_ended sep last (columns_of l) (drop k values)) none) ∙ u.rest in
          subst (λ (t : List ℕ). Put t at out₀ next out) is u.put

      module _ (long : length columns ≡ length values) (h : k < length columns) (room : at + length (fields_ended sep last (columns_of columns) values) ≤ length out₀) (stop : ℕ) (is : stop ≡ stop_by_left sep last (length columns - k)) where
        abbrev field : List ℕ
        field = text_at k ++ (stop ∷ [])

        parts : u.done ++ (field ++ left (k + 1)) ≡ fields_ended sep last (columns_of columns) values
        parts = rw (is, ← first-text long k h sep last) u.rest

        pub writing_room : next + length field ≤ length out
        writing_room =
            put_room u.put (length field)
            (omega (arith, room, ap length parts, length-append u.done (field ++ left (k + 1)), length-append field (left (k + 1))))

        pub writing_more : {out' : List ℕ} {next' : ℕ} → Put field next out next' out' → Writing out' next' (k + 1)
        writing_more p = record {
          high = omega arith;
          done = u.done ++ field;
          put = put_more u.put (omega arith) p;
          rest = append_assoc u.done field (left (k + 1)) ∙ parts;
        }

  -- ---- the loop that counts
  pub record Counting (sum k : ℕ) : Type 0 where
    pub high : k ≤ length columns
    pub rest : sum + fields_length (columns_of (drop k columns)) (drop k values) ≡ fields_length (columns_of columns) values

  pub counting_none : Counting 0 0
  counting_none = record { high = omega arith; rest = zero-add _ }

  module _ {sum k : ℕ} (u : Counting sum k) where
    pub counting_all : length columns ≤ k → sum ≡ fields_length (columns_of columns) values
    unfolding fields_length
    counting_all h =
        let none : drop k columns ≡ [] = drop_of_length-le columns h in
        sym (add-zero sum) ∙ sym (ap (λ (l : List ℕ). sum + fields_length (columns_of l) (drop k values)) none) ∙ u.rest

    module _ (long : length columns ≡ length values) (h : k < length columns) (n : ℕ) (is : n ≡ length (text_at k)) where
      pub counting_within : sum + (n + 1) ≤ fields_length (columns_of columns) values
      counting_within = omega (arith, u.rest, first-length long k h, is)

      pub counting_more : Counting (sum + (n + 1)) (k + 1)
      counting_more = record { high = omega arith; rest = omega (arith, u.rest, first-length long k h, is) }

-- ---- lengths
pub fields_long : (sep last : ℕ) (cs : List Column) (zs : List ℤ) → length (fields_ended sep last cs zs) ≡ fields_length cs zs
unfolding fields_ended fields_length
fields_long sep last [] zs = refl
fields_long sep last (c ∷ cs) zs =
    let f = field_text c (get_or zs 0 (pos 0)) in
    length-append f (stop_of sep last cs ∷ fields_ended sep last cs (drop 1 zs)) ∙ omega (arith, fields_long sep last cs (drop 1 zs))

pub index_long : (sep i : ℕ) → length (index_text sep i) ≡ length (decimal i) + 1
unfolding index_text
index_long sep i = length-append (decimal i) (sep ∷ [])

pub head_long : (sep : ℕ) (head : Head) → length (head_text sep head) ≡ head_length head
unfolding head_text
head_long sep (Lettered letter) = refl
head_long sep (Indexed letter i) = omega (arith, index_long sep i)
head_long sep (Bare i) = omega (arith, index_long sep i)

module _ (sep : ℕ) (head : Head) (cs : List Column) (zs : List ℤ) where
  pub line_sum : length (columns_text sep head cs zs) ≡ length (head_text sep head) + length (fields_ended sep feed cs zs)
  unfolding columns_text
  line_sum = length-append (head_text sep head) (fields_ended sep feed cs zs)

  pub line_long : length (columns_text sep head cs zs) ≡ line_length head cs zs
  line_long = omega (arith, line_sum, head_long sep head, fields_long sep feed cs zs)

-- ---- two parts
module _ (sep last : ℕ) (d : Column) (ds : List Column) (ys : List ℤ) where
  text-parts : (cs : List Column) (zs : List ℤ) → length zs ≡ length cs → fields_ended sep last (cs ++ (d ∷ ds)) (zs ++ ys) ≡ fields_ended sep sep cs zs ++ fields_ended sep last (d ∷ ds) ys
  unfolding fields_ended
  text-parts [] [] e = refl
  text-parts [] (z ∷ zs) e = absurd (omega arith)
  text-parts (c ∷ cs) [] e = absurd (omega arith)
  text-parts (c ∷ cs) (z ∷ zs) e =
      ap (λ (l : List ℕ). field_text c z ++ l) (ap₂ (λ (x : ℕ) (l : List ℕ). x ∷ l) (stop cs) (text-parts cs zs (omega arith)))
      ∙ sym (append_assoc (field_text c z) (stop_of sep sep cs ∷ fields_ended sep sep cs zs) (fields_ended sep last (d ∷ ds) ys))
    where
      stop : (cs : List Column) → stop_of sep last (cs ++ (d ∷ ds)) ≡ stop_of sep sep cs
      stop [] = refl
      stop (x ∷ xs) = refl

fields_parts : (sep : ℕ) (cs : List Column) (bs : List ℕ) (zs ys : List ℤ) → 0 < length bs → length zs ≡ length cs
    → fields_ended sep feed (cs ++ columns_of bs) (zs ++ ys) ≡ fields_ended sep sep cs zs ++ fields_ended sep feed (columns_of bs) ys
fields_parts sep cs [] zs ys some e = absurd (not-suc-le-zero some)
fields_parts sep cs (b ∷ bs) zs ys some e = text-parts sep feed (column_of b) (columns_of bs) ys cs zs e

pub columns_long : (bs : List ℕ) → length (columns_of bs) ≡ length bs
columns_long [] = refl
columns_long (b ∷ bs) = ap suc (columns_long bs)

module _ (sep : ℕ) (head : Head) (cs : List Column) (bs : List ℕ) (zs ys : List ℤ) (some : 0 < length bs) (long : length zs ≡ length cs) where
  abbrev front : List ℕ
  front = fields_ended sep sep cs zs

  abbrev back : List ℕ
  back = fields_ended sep feed (columns_of bs) ys

  pub parts_text_lem : columns_text sep head (cs ++ columns_of bs) (zs ++ ys) ≡ (head_text sep head ++ front) ++ back
  unfolding columns_text
  parts_text_lem = ap (λ (l : List ℕ). head_text sep head ++ l) (fields_parts sep cs bs zs ys some long) ∙ sym (append_assoc (head_text sep head) front back)

  pub parts_sum : length (columns_text sep head (cs ++ columns_of bs) (zs ++ ys)) ≡ length (head_text sep head) + length front + length back
  parts_sum = ap length parts_text_lem ∙ length-append (head_text sep head ++ front) back ∙ ap (λ (n : ℕ). n + length back) (length-append (head_text sep head) front)

pub length_parts : (cs ds : List Column) (zs ys : List ℤ) → length zs ≡ length cs → fields_length (cs ++ ds) (zs ++ ys) ≡ fields_length cs zs + fields_length ds ys
unfolding fields_length
length_parts [] ds [] ys e = sym (zero-add (fields_length ds ys))
length_parts [] ds (z ∷ zs) ys e = absurd (omega arith)
length_parts (c ∷ cs) ds [] ys e = absurd (omega arith)
length_parts (c ∷ cs) ds (z ∷ zs) ys e = omega (arith, length_parts cs ds zs ys (omega arith))

-- ---- a raw record by its numbers
numbers_from_lem : (cs : List Column) (k : ℕ) (raw : List ℤ) → length raw ≡ k + length cs → numbers_from k cs raw ≡ drop k raw
numbers_from_lem [] k raw e = let past : length raw ≤ k = omega arith in sym (drop_of_length-le raw past)
numbers_from_lem (c ∷ cs) k raw e = ap (λ (l : List ℤ). get_or raw k (pos 0) ∷ l) (numbers_from_lem cs (suc k) raw (omega arith)) ∙ sym (drop-cons raw k (pos 0) (omega arith))

pub numbers_are : (cs : List Column) (raw : List ℤ) → length raw ≡ length cs → numbers_of cs raw ≡ raw
numbers_are cs raw e = numbers_from_lem cs 0 raw (omega arith)
