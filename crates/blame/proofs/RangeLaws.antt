-- The laws of `specs/RangeBlame.antt`. Its code cites the loops and the tests in two parts; the rest is for readers: a line out of range has its byte
-- (`range-some`) and one within has none (`range_none`), since the tests of a kind of line are together the range that the table is judged by.
-- In order: the loop over bytes, `Passing`; the loop over tests, `Tested`; tests in two parts; a byte or none.
use mathlib.Core.Path.{◌≡◌, refl, sym, ap, ◌∙◌}
use mathlib.Core.Bool.{Bool, true, false, cond, false≢true}
use mathlib.Core.List.{List, [], ◌∷◌, ◌++◌}
use Prim.Native.Nat.{ℕ, zero, suc, ◌+◌, ◌-◌, ◌≤◌, ◌<◌}
use native.Mathlib.Nat.{add-zero, zero-add}
use native.Mathlib.Numerals.{add-one}
use native.Mathlib.Omega.{arith}
use lib.Dec.{eqb}
use lib.ListN.{length, get_or, drop, drop_of_length-le}
use lib.Seq.{drop-cons}
use Rattle.types.specs.Ranges.{all_true}
use Rattle.blame.specs.RangeBlame.{past_seps, field_first, range_byte}

-- ---- the loop over bytes: `left` of the bytes that part fields are still to be passed from place i on
module _ (sep k : ℕ) (line : List ℕ) where
  pub record Passing (left i : ℕ) : Type 0 where
    pub high : i ≤ length line
    pub so_far : i + past_seps sep left (drop i line) ≡ past_seps sep k line

  pub passing_none : Passing k 0
  passing_none = record { high = omega arith; so_far = zero-add (past_seps sep k line) }

  module _ (left i : ℕ) (u : Passing left i) where
    pub passing_here : left ≡ 0 → i + 1 ≡ past_seps sep k line + 1
    unfolding past_seps
    passing_here e = ap (λ (x : ℕ). x + 1) (omega (arith, ap (λ (x : ℕ). past_seps sep x (drop i line)) e, u.so_far))

    pub passing_all : length line ≤ i → i + 1 ≡ past_seps sep k line + 1
    unfolding past_seps
    passing_all h = omega (arith, none left, u.so_far)
      where
        none : (x : ℕ) → past_seps sep x (drop i line) ≡ 0
        none zero = refl
        none (suc x) = ap (past_seps sep (suc x)) (drop_of_length-le line h)

    pub passing_more : (l : ℕ) → i < length line → (left ≡ 0 → ⊥) → l ≡ cond (eqb (get_or line i 0) sep) (left - 1) left → Passing l (i + 1)
    unfolding past_seps
    passing_more l h n e = record { high = omega arith; so_far = ap (λ (x : ℕ). i + 1 + past_seps sep x (drop (i + 1) line)) e ∙ go left n u.so_far }
      where
        step : (x : ℕ) → past_seps sep (suc x) (drop i line) ≡ suc (cond (eqb (get_or line i 0) sep) (past_seps sep x (drop (i + 1) line)) (past_seps sep (suc x) (drop (i + 1) line)))
        step x = ap (past_seps sep (suc x)) (drop-cons line i 0 h ∙ ap (λ (j : ℕ). get_or line i 0 ∷ drop j line) (sym (add-one i)))

        pick : (t : Bool) (x : ℕ) → past_seps sep (cond t x (suc x)) (drop (i + 1) line) ≡ cond t (past_seps sep x (drop (i + 1) line)) (past_seps sep (suc x) (drop (i + 1) line))
        pick true x = refl
        pick false x = refl

        go : (x : ℕ) → (x ≡ 0 → ⊥) → i + past_seps sep x (drop i line) ≡ past_seps sep k line
            → i + 1 + past_seps sep (cond (eqb (get_or line i 0) sep) (x - 1) x) (drop (i + 1) line) ≡ past_seps sep k line
        go zero n q = absurd (n refl)
        go (suc x) n q = let r : suc x - 1 ≡ x = omega arith in rw r (omega (arith, q, step x, pick (eqb (get_or line i 0) sep) x))

-- ---- the loop over tests: the first j pass
module _ (sep : ℕ) (tests : List Bool) (k : ℕ) (line : List ℕ) where
  pub record Tested (j : ℕ) : Type 0 where
    pub high : j ≤ length tests
    pub so_far : range_byte sep (drop j tests) (k + j) line ≡ range_byte sep tests k line

  pub tested_none : Tested 0
  tested_none = record { high = omega arith; so_far = ap (λ (x : ℕ). range_byte sep tests x line) (add-zero k) }

  module _ (j : ℕ) (u : Tested j) where
    pub tested_all : length tests ≤ j → 0 ≡ range_byte sep tests k line
    unfolding range_byte
    tested_all h = sym (ap (λ (l : List Bool). range_byte sep l (k + j) line) (drop_of_length-le tests h)) ∙ u.so_far

    module _ (d : Bool) (h : j < length tests) where
      step : range_byte sep (drop j tests) (k + j) line ≡ cond (get_or tests j d) (range_byte sep (drop (j + 1) tests) (suc (k + j)) line) (field_first sep (k + j) line)
      unfolding range_byte
      step = ap (λ (l : List Bool). range_byte sep l (k + j) line) (drop-cons tests j d h ∙ ap (λ (i : ℕ). get_or tests j d ∷ drop i tests) (sym (add-one j)))

      pub tested_here : get_or tests j d ≡ false → field_first sep (k + j) line ≡ range_byte sep tests k line
      tested_here e = sym (step ∙ rw e) ∙ u.so_far

      pub tested_more : get_or tests j d ≡ true → Tested (j + 1)
      tested_more e =
          let q : k + (j + 1) ≡ suc (k + j) = omega arith in
          record { high = omega arith; so_far = ap (λ (x : ℕ). range_byte sep (drop (j + 1) tests) x line) q ∙ sym (step ∙ rw e) ∙ u.so_far }

-- ---- tests in two parts
module _ (sep : ℕ) (us : List Bool) (line : List ℕ) where
  pub range_later : (ts : List Bool) (k : ℕ) → range_byte sep ts k line ≡ 0 → range_byte sep us (k + length ts) line ≡ range_byte sep (ts ++ us) k line
  unfolding range_byte
  range_later [] k e = ap (λ (x : ℕ). range_byte sep us x line) (add-zero k)
  range_later (true ∷ ts) k e =
      let q : k + suc (length ts) ≡ suc k + length ts = omega arith in
      ap (λ (x : ℕ). range_byte sep us x line) q ∙ range_later ts (suc k) e
  range_later (false ∷ ts) k e = absurd (omega arith)

  pub range_first : (ts : List Bool) (k : ℕ) → (range_byte sep ts k line ≡ 0 → ⊥) → range_byte sep ts k line ≡ range_byte sep (ts ++ us) k line
  unfolding range_byte
  range_first [] k e = absurd (e refl)
  range_first (true ∷ ts) k e = range_first ts (suc k) e
  range_first (false ∷ ts) k e = refl

-- ---- a line out of range has its byte, and one within has none
module _ (sep : ℕ) (line : List ℕ) where
  pub range_none : (tests : List Bool) (k : ℕ) → all_true tests ≡ true → range_byte sep tests k line ≡ 0
  unfolding range_byte
  range_none [] k e = refl
  range_none (true ∷ ts) k e = range_none ts (suc k) e
  range_none (false ∷ ts) k e = absurd (false≢true e)

  pub range_some : (tests : List Bool) (k : ℕ) → all_true tests ≡ false → 0 < range_byte sep tests k line
  unfolding range_byte
  range_some [] k e = absurd (false≢true (sym e))
  range_some (true ∷ ts) k e = range_some ts (suc k) e
  range_some (false ∷ ts) k e = omega arith
