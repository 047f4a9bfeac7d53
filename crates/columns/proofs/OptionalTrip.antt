-- The round trip of lines whose last columns may be left out, both ways: what was read is what stands there, and what is written reads as itself.
-- No contract cites this file. In order: what is kept; the columns by which it is written; the round trip.
use mathlib.Core.Path.{◌≡◌, refl, sym, ap, ◌∙◌}
use mathlib.Core.Bool.{Bool, true, false, cond}
use mathlib.Core.List.{List, [], ◌∷◌, ◌++◌}
use Prim.Native.Nat.{ℕ, ◌+◌}
use native.Mathlib.Omega.{arith}
use lib.Dec.{eqb}
use lib.IntN.{ℤ, pos, nat_abs}
use lib.ListN.{length-replicate, length, get_or, take, length-append}
use lib.Seq.{take_at, get_or_at}
use lib.Signed.{lt_z}
use borrow.Author.Tests.{le-ltb}
use Rattle.numbers.specs.Ints.{minus}
use Rattle.types.specs.LineColumns.{Column, number}
use Rattle.text.specs.Fields.{feed}
use Rattle.columns.specs.declared.Head.{Head}
use Rattle.columns.specs.Columns.{Values, values, wrong}
use Rattle.columns.specs.ColumnText.{fields_ended, head_text, columns_text}
use Rattle.columns.specs.ColumnLine.{columns_line, judged}
use Rattle.columns.specs.Optional.{left_out, or_longer, optional_line, written_by, optional_text}
use Rattle.columns.proofs.ColumnTrip.{AllKept, kept_long, Ends, Small, line_read, line_written, judged_is}
use Rattle.columns.proofs.OptionalLaws.{text_front}
use Rattle.columns.proofs.FieldEnd.{line_shorter}
use Rattle.std.specs.Prelude.{Ok}

-- ---- what is kept: the values of all columns; or of those that are always there, and marks
pub data OptionalKept (cs ds : List Column) (zs : List ℤ) : Type 0 where
  left : (ys : List ℤ) → zs ≡ ys ++ left_out (length ds) → AllKept cs ys → OptionalKept cs ds zs
  given : AllKept (cs ++ ds) zs → OptionalKept cs ds zs

pub kept_many : (cs ds : List Column) (zs : List ℤ) → OptionalKept cs ds zs → length zs ≡ length cs + length ds
kept_many cs ds zs (left ys e k) = ap length e ∙ omega (arith, length-append ys (left_out (length ds)), length-replicate (length ds) (minus 1), kept_long cs ys k)
kept_many cs ds zs (given k) = kept_long (cs ++ ds) zs k ∙ columns_many cs ds
  where
    columns_many : (bs es : List Column) → length (bs ++ es) ≡ length bs + length es
    columns_many [] es = omega arith
    columns_many (b ∷ bs) es = omega (arith, columns_many bs es)

-- ---- the columns by which it is written: the first of those that may be left out is a number
module _ (cs es : List Column) where
  first-given : (bs : List Column) (zs : List ℤ) → AllKept (bs ++ (number ∷ es)) zs → get_or zs (length bs) (pos 0) ≡ pos (nat_abs (get_or zs (length bs) (pos 0)))
  first-given [] [] k = absurd k
  first-given [] (z ∷ zs) k = k.0.0
  first-given (b ∷ bs) [] k = absurd k
  first-given (b ∷ bs) (z ∷ zs) k = first-given bs zs k.1

  by_all : (zs : List ℤ) → AllKept (cs ++ (number ∷ es)) zs → written_by cs (number ∷ es) zs ≡ cs ++ (number ∷ es)
  by_all zs k = ap (λ (t : Bool). cond t cs (cs ++ (number ∷ es))) (ap (λ (z : ℤ). lt_z z (pos 0)) (first-given cs zs k) ∙ le-ltb (nat_abs (get_or zs (length cs) (pos 0))) 0 (omega arith))

  by-few : (zs ys : List ℤ) → zs ≡ ys ++ left_out (length (number ∷ es)) → length ys ≡ length cs → written_by cs (number ∷ es) zs ≡ cs
  by-few zs ys e long =
      ap (λ (z : ℤ). cond (lt_z z (pos 0)) cs (cs ++ (number ∷ es)))
      (ap (λ (l : List ℤ). get_or l (length cs) (pos 0)) e ∙ get_or_at ys (minus 1) (left_out (length es)) (pos 0) (length cs) long)

-- ---- the round trip
module _ (sep : ℕ) (ends : Ends sep) (other : eqb sep feed ≡ false) (head : Head) (cs es : List Column) where
  abbrev ds : List Column
  ds = number ∷ es

  abbrev reads : List Column → List ℕ → Values
  reads bs line = columns_line sep head bs line

  abbrev texts : List Column → List ℤ → List ℕ
  texts bs zs = columns_text sep head bs zs

  few-text : (zs ys : List ℤ) → zs ≡ ys ++ left_out (length ds) → length ys ≡ length cs → texts cs ys ≡ texts (written_by cs ds zs) zs
  unfolding columns_text
  few-text zs ys e long =
      ap (λ (l : List ℤ). head_text sep head ++ fields_ended sep feed cs l) (sym (ap (take (length cs)) e ∙ take_at ys (left_out (length ds)) (length cs) long))
      ∙ ap (λ (l : List ℕ). head_text sep head ++ l) (text_front sep feed cs zs)
      ∙ ap (λ (l : List Column). head_text sep head ++ fields_ended sep feed l zs) (sym (by-few cs es zs ys e long))

  pub record OptionalRead (line : List ℕ) (zs : List ℤ) : Type 0 where
    pub here : line ≡ optional_text sep head cs ds zs
    pub kept : OptionalKept cs ds zs

  pub optional_read : (line : List ℕ) (zs : List ℤ) (next : ℕ) → optional_line sep head cs ds line ≡ values zs next → OptionalRead line zs
  unfolding optional_line
  optional_read line zs next e = go (reads cs line) refl e
    where
      go : (v : Values) → reads cs line ≡ v → or_longer (length ds) v (reads (cs ++ ds) line) ≡ values zs next → OptionalRead line zs
      go (values ys m) q e =
          let is : zs ≡ ys ++ left_out (length ds) = cc in
          let r = line_read sep ends head cs line ys m q in
          record { here = r.here ∙ few-text zs ys is (kept_long cs ys r.kept); kept = left ys is r.kept }
      go (wrong place) q e =
          let r = line_read sep ends head (cs ++ ds) line zs next e in
          record { here = r.here ∙ ap (λ (l : List Column). texts l zs) (sym (by_all cs es zs r.kept)); kept = given r.kept }

  record OptionalWritten (zs : List ℤ) : Type 0 where
    next : ℕ
    is : optional_line sep head cs ds (optional_text sep head cs ds zs) ≡ values zs next

  again : Small head → (zs : List ℤ) → OptionalKept cs ds zs → OptionalWritten zs
  unfolding optional_line
  again small zs (left ys e k) =
      let line = texts (written_by cs ds zs) zs in
      let w = line_written sep ends head cs ys small k in
      let r : reads cs line ≡ values ys w.next = ap (reads cs) (sym (few-text zs ys e (kept_long cs ys k))) ∙ w.is in
      record { next = w.next; is = ap (λ (v : Values). or_longer (length ds) v (reads (cs ++ ds) line)) r ∙ ap (λ (l : List ℤ). values l w.next) (sym e) }
  again small zs (given k) =
      let line = texts (written_by cs ds zs) zs in
      let w = line_written sep ends head (cs ++ ds) zs small k in
      let r : reads (cs ++ ds) line ≡ values zs w.next = ap (λ (l : List Column). reads (cs ++ ds) (texts l zs)) (by_all cs es zs k) ∙ w.is in
      record { next = w.next; is = go w.next line r (reads cs line) refl }
    where
      go : (n : ℕ) (line : List ℕ) → reads (cs ++ ds) line ≡ values zs n → (v : Values) → reads cs line ≡ v → or_longer (length ds) v (reads (cs ++ ds) line) ≡ values zs n
      go n line r (wrong place) q = r
      go n line r (values ys m) q = absurd (line_shorter sep ends other line number es cs zs ys n m head r q)

  module _ {A : Type 0} (fits : List ℤ → Bool) (make : List ℤ → A) (bad : ℕ) (out : List ℤ → ℕ) where
    -- a line that holds a is the text of values that make a
    pub record OptionalHolding (line : List ℕ) (a : A) : Type 0 where
      pub zs : List ℤ
      pub read : OptionalRead line zs
      pub fit : fits zs ≡ true
      pub made : make zs ≡ a

    pub optional_judged : (line : List ℕ) (a : A) → judged fits make bad out (optional_line sep head cs ds line) ≡ Ok a → OptionalHolding line a
    optional_judged line a e =
        let j = judged_is fits make bad out a (optional_line sep head cs ds line) e in
        record { zs = j.zs; read = optional_read line j.zs j.next j.is; fit = j.fit; made = j.made }

    -- the text of values holds what they make
    pub optional_written : (zs : List ℤ) → Small head → OptionalKept cs ds zs → fits zs ≡ true → judged fits make bad out (optional_line sep head cs ds (optional_text sep head cs ds zs)) ≡ Ok (make zs)
    optional_written zs small k f = rw ((again small zs k).is, f)
