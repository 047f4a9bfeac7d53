-- Copies and fills of lent lists, of any length and element: a copy is `paste` of lib.Seq, a fill is `table` in front of what stays (`over`).
-- `Copied` and `Filled` are the loops' invariants, each with its `-none`, `-more`, `-all`; `stretch-left` is a part lent mid-slice. No contract cites this file.
use mathlib.Core.Path.{◌≡◌, refl, ◌∙◌, sym, ap, ap₂}
use mathlib.Core.List.{List, [], ◌∷◌, ◌++◌, append_assoc, append-nil}
use Prim.Native.Nat.{ℕ, suc, ◌+◌, ◌-◌, ◌<◌, ◌≤◌}
use native.Mathlib.Nat.{zero-add}
use native.Mathlib.Numerals.{add-one}
use native.Mathlib.Omega.{arith}
use lib.ListN.{length, get_or, set, take, drop, length-set, length-drop, drop_of_length-le}
use lib.Seq.{paste, paste-zero, paste-suc, length-take-le, take_all, drop-drop, drop-cons, get_or_at, set_at}
use Rattle.numbers.specs.Below.{table, over}
use Rattle.numbers.proofs.BelowLaws.{table_long}

module _ {A : Type 0} where
  -- ---- copies

  pub paste_more : (d s : List A) (j : ℕ) (z : A) → j < length d → j < length s → set (paste d 0 s j) j (get_or s j z) ≡ paste d 0 s (j + 1)
  paste_more d s j z hd hs =
      ap (λ (k : ℕ). set (paste d 0 s j) k (get_or s j z)) (sym (zero-add j))
      ∙ paste-suc d 0 s j z (rw zero-add hd) hs
      ∙ ap (λ (k : ℕ). paste d 0 s k) (sym (add-one j))

  -- a copy that fills a whole part
  pub whole : (p s : List A) (n : ℕ) → length p ≤ n → paste p 0 s n ≡ take n s
  whole p s n h =
      ap (λ (k : ℕ). take n s ++ drop k p) (zero-add n)
      ∙ ap (λ (r : List A). take n s ++ r) (drop_of_length-le p h)
      ∙ append-nil (take n s)

  -- what a callee left in the part `&mut xs[a..a + n]`, any n items, said of the whole slice; k is the part's length as the code computes it
  pub stretch_left : (xs ys : List A) (a n k : ℕ) → k ≡ n → length ys ≡ n → take a xs ++ (ys ++ drop k (drop a xs)) ≡ paste xs a ys n
  stretch_left xs ys a n k hk hn =
      ap (λ (m : ℕ). take a xs ++ (ys ++ drop m (drop a xs))) hk
      ∙ ap₂ (λ (l m : List A). take a xs ++ (l ++ m)) (sym (take_all n ys (omega arith))) (drop-drop n a xs)
      ∙ sym (append_assoc (take a xs) (take n ys) (drop (a + n) xs))

  -- how many items the part `&mut xs[a..a + n]` has
  pub part_long : (xs : List A) (a n : ℕ) → a + n ≤ length xs → length (take (a + n - a) (drop a xs)) ≡ n
  part_long xs a n room = length-take-le (a + n - a) (drop a xs) (simp length-drop (omega arith)) ∙ omega arith

  -- the first i of n items are copied from s into what was d₀
  pub record Copied (s : List A) (n : ℕ) (d₀ d : List A) (i : ℕ) : Type 0 where
    pub high : i ≤ n
    pub long : length d ≡ length d₀
    pub is : d ≡ paste d₀ 0 s i

  pub copied_none : (s : List A) (n : ℕ) (d : List A) → Copied s n d d 0
  copied_none s n d = record { high = omega arith; long = refl; is = paste-zero d 0 s }

  pub copied_more : {s : List A} {n : ℕ} {d₀ d : List A} {i : ℕ} (z v : A) → n ≤ length s → n ≤ length d₀ → Copied s n d₀ d i → i < n → v ≡ get_or s i z → Copied s n d₀ (set d i v) (i + 1)
  copied_more {s} {n} {d₀} {d} {i} z v hs hd u h e = record {
    high = omega arith;
    long = simp length-set u.long;
    is = rw (e, u.is) (paste_more d₀ s i z (omega arith) (omega arith));
  }

  pub copied_all : {s : List A} {n : ℕ} {d₀ d : List A} {i : ℕ} → Copied s n d₀ d i → n ≤ i → d ≡ paste d₀ 0 s n
  copied_all {s} {n} {d₀} {d} {i} u h =
      let e : i ≡ n = omega arith in
      u.is ∙ ap (λ (k : ℕ). paste d₀ 0 s k) e

-- ---- fills

-- a buffer that a loop fills from the front: its first i items, of n, are f's, and the rest is not changed
pub record Filled {A : Type 0} (f : ℕ → A) (n : ℕ) (old out : List A) (i : ℕ) : Type 0 where
  pub high : i ≤ n
  pub so_far : out ≡ table i f ++ drop i old
  pub as_long : length out ≡ length old

pub filled_none : {A : Type 0} (f : ℕ → A) (n : ℕ) (old : List A) → Filled f n old old 0
unfolding table
filled_none f n old = record { high = omega arith; so_far = refl; as_long = refl }

module _ {A : Type 0} {f : ℕ → A} {n : ℕ} {old out : List A} {i : ℕ} (u : Filled f n old out i) where
  -- what is still to be filled is not changed
  pub filled_rest : (d : A) → i < length old → get_or out i d ≡ get_or old i d
  filled_rest d h = rw (u.so_far, drop-cons old i d) (get_or_at (table i f) (get_or old i d) (drop (suc i) old) d i (table_long i f))

  pub filled_more : (v : A) → i < n → n ≤ length old → v ≡ f i → Filled f n old (set out i v) (i + 1)
  unfolding table
  filled_more v h l e =
      record {
        high = omega arith;
        so_far =
            rw (u.so_far, add-one i, drop-cons old i v (omega arith), e)
            (set_at (table i f) (get_or old i (f i)) (drop (suc i) old) (f i) i (table_long i f) ∙ sym (append_assoc (table i f) (f i ∷ []) (drop (suc i) old)));
        as_long = simp length-set u.as_long;
      }

  pub filled_over : n ≤ i → out ≡ over (table n f) old
  filled_over h =
      let e : i ≡ n = omega (arith, u.high) in
      u.so_far ∙ ap (λ (j : ℕ). table j f ++ drop j old) e ∙ ap (λ (j : ℕ). table n f ++ drop j old) (sym (table_long n f))

  -- a buffer of just n items is filled whole
  pub filled_all : n ≤ i → length old ≡ n → out ≡ table n f
  filled_all h l =
      let z : length old ≤ length (table n f) = omega (arith, table_long n f) in
      filled_over h ∙ ap (λ (t : List A). table n f ++ t) (drop_of_length-le old z) ∙ append-nil (table n f)

-- what fills the front of a list, of which the code drops as many items
pub over_front : {A : Type 0} (xs new old : List A) (n : ℕ) → xs ≡ new → length new ≡ n → xs ++ drop n old ≡ over new old
over_front xs new old n e l = rw (e, ← l)
