-- The laws of `specs/Fields.antt`: a field that was repaired is not changed again, and holds no byte that it did not hold before but zeros. No contract cites this file.
-- In order: the bytes that are left; trimmed ends; quotes; decimals; a field.
use mathlib.Core.Path.{◌≡◌, refl, sym, ap, subst, ◌∙◌}
use mathlib.Core.Bool.{Bool, true, false, cond, ◌&&◌, false≢true}
use mathlib.Core.List.{List, [], ◌∷◌, ◌++◌, append-nil}
use Prim.Native.Nat.{ℕ, zero, suc, ◌+◌, ◌-◌, ◌<◌}
use native.Mathlib.Nat.{not-suc-le-zero, add-zero}
use native.Mathlib.Omega.{arith}
use borrow.Author.Tests.{eqb-true, eqb-false, eq-eqb, ne_eqb}
use lib.Dec.{eqb}
use lib.ListN.{length, replicate, length-append, length-replicate}
use Rattle.numbers.proofs.TestLaws.{zero_one, true_false}
use Rattle.text.specs.Fields.{is_digit, dash}
use Rattle.text.specs.Point.{point}
use Rattle.tidyrules.specs.Fields.{blank, quote, empty, edge, unled, untrailed, trimmed, closes, within, unquoted, digits_only, decimals_past, decimals_of, short, lacking, filled, bared, repaired}
use Rattle.tidyrules.proofs.CutLaws.{Free, free_append, free_replicate}

-- ---- the bytes that are left
module _ (test : ℕ → Bool) where
  unled-free : (s : List ℕ) → Free test s → Free test (unled s)
  unled-free [] h = tt
  unled-free (b ∷ s) h = go (eqb b blank) (unled-free s h.1)
    where
      go : (t : Bool) → Free test (unled s) → Free test (cond t (unled s) (b ∷ s))
      go true q = q
      go false q = h

  pub untrailed_free : (last : Bool) (s : List ℕ) → Free test s → Free test (untrailed last s)
  untrailed_free last [] h = tt
  untrailed_free last (b ∷ s) h = go (edge last b && empty (untrailed last s)) (untrailed_free last s h.1)
    where
      go : (t : Bool) → Free test (untrailed last s) → Free test (cond t [] (b ∷ untrailed last s))
      go true q = tt
      go false q = (h.0, q)

  pub trimmed_free : (last : Bool) (s : List ℕ) → Free test s → Free test (trimmed last s)
  trimmed_free last s h = unled-free (untrailed last s) (untrailed_free last s h)

  pub within_free : (s : List ℕ) → Free test s → Free test (within s)
  within_free [] h = tt
  within_free (b ∷ s) h = go (eqb b quote) (within_free s h.1)
    where
      go : (t : Bool) → Free test (within s) → Free test (cond t [] (b ∷ within s))
      go true q = tt
      go false q = (h.0, q)

  unquoted-free : (last : Bool) (s : List ℕ) → Free test s → Free test (unquoted last s)
  unquoted-free last [] h = tt
  unquoted-free last (b ∷ s) h = go (eqb b quote && closes s)
    where
      go : (t : Bool) → Free test (cond t (trimmed last (within s)) (b ∷ s))
      go true = trimmed_free last (within s) (within_free s h.1)
      go false = h

  pub repaired_free : (last : Bool) (wanted : ℕ) (f : List ℕ) → test 48 ≡ false → Free test f → Free test (repaired last wanted f)
  unfolding repaired bared
  repaired_free last wanted f zero-out h =
      free_append test (bared last f) _ (unquoted-free last (trimmed last f) (trimmed_free last f h)) (free_replicate test (lacking wanted (bared last f)) 48 zero-out)

-- ---- trimmed ends
-- nothing goes at either end
pub record Trim (last : Bool) (s : List ℕ) : Type 0 where
  pub end : untrailed last s ≡ s
  pub begin : unled s ≡ s

pub trim_trimmed : {last : Bool} {s : List ℕ} → Trim last s → trimmed last s ≡ s
trim_trimmed t = rw t.end t.begin

module _ (last : Bool) where
  untrailed-again : (s : List ℕ) → untrailed last (untrailed last s) ≡ untrailed last s
  untrailed-again [] = refl
  untrailed-again (b ∷ s) = go (edge last b && empty (untrailed last s)) refl (untrailed-again s)
    where
      go : (t : Bool) → (edge last b && empty (untrailed last s)) ≡ t → untrailed last (untrailed last s) ≡ untrailed last s
          → untrailed last (cond t [] (b ∷ untrailed last s)) ≡ cond t [] (b ∷ untrailed last s)
      go true e q = refl
      go false e q = rw (q, e)

  unled-again : (s : List ℕ) → unled (unled s) ≡ unled s
  unled-again [] = refl
  unled-again (b ∷ s) = go (eqb b blank) refl (unled-again s)
    where
      go : (t : Bool) → eqb b blank ≡ t → unled (unled s) ≡ unled s → unled (cond t (unled s) (b ∷ s)) ≡ cond t (unled s) (b ∷ s)
      go true e q = q
      go false e q = rw e

  -- what follows the first byte of what nothing goes off at the end
  untrailed-tail : (b : ℕ) (s : List ℕ) → untrailed last (b ∷ s) ≡ b ∷ s → untrailed last s ≡ s
  untrailed-tail b s h = go (edge last b && empty (untrailed last s)) h
    where
      go : (t : Bool) → cond t [] (b ∷ untrailed last s) ≡ b ∷ s → untrailed last s ≡ s
      go true e = let z : ◌≡◌ {A = ℕ} 0 1 = cc in absurd (zero_one z)
      go false e = cc

  unled_end : (s : List ℕ) → untrailed last s ≡ s → untrailed last (unled s) ≡ unled s
  unled_end [] h = refl
  unled_end (b ∷ s) h = go (eqb b blank) (unled_end s (untrailed-tail b s h))
    where
      go : (t : Bool) → untrailed last (unled s) ≡ unled s → untrailed last (cond t (unled s) (b ∷ s)) ≡ cond t (unled s) (b ∷ s)
      go true q = q
      go false q = h

  pub trimmed_trim : (f : List ℕ) → Trim last (trimmed last f)
  trimmed_trim f = record { end = unled_end (untrailed last f) (untrailed-again f); begin = unled-again (untrailed last f) }

  -- ---- quotes
  -- nothing goes at either end, and there are no quotes around it
  pub record Bare (s : List ℕ) : Type 0 where
    pub trim : Trim last s
    pub plain : unquoted last s ≡ s

  no-quotes : (s : List ℕ) → Free (λ b. eqb b quote) s → unquoted last s ≡ s
  no-quotes [] h = refl
  no-quotes (b ∷ s) h = rw h.0

  within-no-quotes : (s : List ℕ) → Free (λ b. eqb b quote) (within s)
  within-no-quotes [] = tt
  within-no-quotes (b ∷ s) = go (eqb b quote) refl (within-no-quotes s)
    where
      go : (t : Bool) → eqb b quote ≡ t → Free (λ b. eqb b quote) (within s) → Free (λ b. eqb b quote) (cond t [] (b ∷ within s))
      go true e q = tt
      go false e q = (e, q)

  unquoted-bare : (s : List ℕ) → Trim last s → Bare (unquoted last s)
  unquoted-bare [] t = record { trim = t; plain = refl }
  unquoted-bare (b ∷ s) t = go (eqb b quote && closes s) refl
    where
      go : (v : Bool) → (eqb b quote && closes s) ≡ v → Bare (cond v (trimmed last (within s)) (b ∷ s))
      go true e = record { trim = trimmed_trim (within s); plain = no-quotes (trimmed last (within s)) (trimmed_free _ last (within s) (within-no-quotes s)) }
      go false e = record { trim = t; plain = rw e }

  pub bared_bare : (f : List ℕ) → Bare (bared last f)
  unfolding bared
  bared_bare f = unquoted-bare (trimmed last f) (trimmed_trim f)

  pub bare_bared : (f : List ℕ) → Bare f → bared last f ≡ f
  unfolding bared
  bare_bared f h = ap (unquoted last) (trim_trimmed h.trim) ∙ h.plain

-- ---- decimals
-- zeros behind digits, and behind a number's decimals
digits_zeros : (n : ℕ) → digits_only (replicate n 48) ≡ true
digits_zeros zero = refl
digits_zeros (suc n) = digits_zeros n

digits_more : (s : List ℕ) (n : ℕ) → digits_only (s ++ replicate n 48) ≡ digits_only s
digits_more [] n = digits_zeros n
digits_more (b ∷ s) n = ap (λ (t : Bool). is_digit b && t) (digits_more s n)

past_more : (some : Bool) (s : List ℕ) (n : ℕ) → 0 < decimals_past some s → decimals_past some (s ++ replicate n 48) ≡ decimals_past some s + n
past_more some [] n h = absurd (not-suc-le-zero {n = 0} (omega arith))
past_more some (b ∷ s) n h = go (is_digit b) (λ k. past_more true s n k) h
  where
    ends : (t : Bool) → 0 < cond t (length s) 0 → cond t (length (s ++ replicate n 48)) 0 ≡ cond t (length s) 0 + n
    ends true k = length-append s (replicate n 48) ∙ ap (λ (m : ℕ). length s + m) (length-replicate n 48)
    ends false k = absurd (not-suc-le-zero {n = 0} (omega arith))

    go : (t : Bool) → (0 < decimals_past true s → decimals_past true (s ++ replicate n 48) ≡ decimals_past true s + n)
        → 0 < cond t (decimals_past true s) (cond (some && (eqb b point && digits_only s)) (length s) 0)
        → cond t (decimals_past true (s ++ replicate n 48)) (cond (some && (eqb b point && digits_only (s ++ replicate n 48))) (length (s ++ replicate n 48)) 0)
        ≡ cond t (decimals_past true s) (cond (some && (eqb b point && digits_only s)) (length s) 0) + n
    go true ih k = ih k
    go false ih k = rw (digits_more s n) (ends (some && (eqb b point && digits_only s)) k)

pub decimals_more : (f : List ℕ) (n : ℕ) → 0 < decimals_of f → decimals_of (f ++ replicate n 48) ≡ decimals_of f + n
decimals_more [] n h = absurd (not-suc-le-zero {n = 0} (omega arith))
decimals_more (b ∷ s) n h = go (eqb b dash) h
  where
    go : (t : Bool) → 0 < cond t (decimals_past false s) (decimals_past false (b ∷ s))
        → cond t (decimals_past false (s ++ replicate n 48)) (decimals_past false (b ∷ (s ++ replicate n 48))) ≡ cond t (decimals_past false s) (decimals_past false (b ∷ s)) + n
    go true k = past_more false s n k
    go false k = past_more false (b ∷ s) n k

-- a number with decimals begins with no blank and with no quote
no_number : (b : ℕ) (s : List ℕ) (k : ℕ) → ((t : List ℕ) → decimals_of (k ∷ t) ≡ 0) → 0 < decimals_of (b ∷ s) → eqb b k ≡ false
no_number b s k none h = ne_eqb b k (λ e. not-suc-le-zero {n = 0} (omega (arith, none s, ap (λ (c : ℕ). decimals_of (c ∷ s)) e)))

-- ---- a field
module _ (last : Bool) where
  zeros-end : (n : ℕ) → untrailed last (replicate (suc n) 48) ≡ replicate (suc n) 48
  zeros-end zero = go last
    where
      go : (v : Bool) → untrailed v (48 ∷ []) ≡ 48 ∷ []
      go true = refl
      go false = refl
  zeros-end (suc n) = go last (zeros-end n)
    where
      go : (v : Bool) → untrailed v (replicate (suc n) 48) ≡ replicate (suc n) 48 → untrailed v (48 ∷ replicate (suc n) 48) ≡ 48 ∷ replicate (suc n) 48
      go true ih = ap (λ (l : List ℕ). 48 ∷ l) ih
      go false ih = ap (λ (l : List ℕ). 48 ∷ l) ih

  -- what stands before an end that stays, stays
  pub untrailed_before : (p : List ℕ) (b : ℕ) (q : List ℕ) → untrailed last (b ∷ q) ≡ b ∷ q → untrailed last (p ++ (b ∷ q)) ≡ p ++ (b ∷ q)
  untrailed_before [] b q h = h
  untrailed_before (a ∷ p) b q h =
      let ih = untrailed_before p b q h in
      ap (λ (l : List ℕ). cond (edge last a && empty l) [] (a ∷ l)) ih ∙ go p (edge last a)
    where
      go : (r : List ℕ) (t : Bool) → cond (t && empty (r ++ (b ∷ q))) [] (a ∷ (r ++ (b ∷ q))) ≡ a ∷ (r ++ (b ∷ q))
      go [] true = refl
      go [] false = refl
      go (c ∷ r) true = refl
      go (c ∷ r) false = refl

  -- zeros behind a number's decimals leave it bare
  filled-bare : (f : List ℕ) (n : ℕ) → Bare last f → 0 < decimals_of f → Bare last (f ++ replicate n 48)
  filled-bare f zero h k = rw (append-nil f) h
  filled-bare [] (suc n) h k = absurd (not-suc-le-zero {n = 0} (omega arith))
  filled-bare (b ∷ s) (suc n) h k =
      let not-blank : eqb b blank ≡ false = no_number b s blank (λ t. refl) k in
      let not-quote : eqb b quote ≡ false = no_number b s quote (λ t. refl) k in
      record {
        trim = record { end = untrailed_before (b ∷ s) 48 (replicate n 48) (zeros-end n); begin = rw not-blank };
        plain = rw not-quote;
      }

  module _ (wanted : ℕ) where
    short-of : (has : ℕ) → 0 < has → short wanted (has + short wanted has) ≡ 0
    short-of has h =
        let some : eqb has 0 ≡ false = ne_eqb has 0 (λ e. not-suc-le-zero {n = 0} (omega arith)) in
        let more : eqb (has + (wanted - has)) 0 ≡ false = ne_eqb (has + (wanted - has)) 0 (λ e. not-suc-le-zero {n = 0} (omega arith)) in
        rw (some, more) (omega arith)

    -- filling twice
    filled-again : (f : List ℕ) → Bare last f → repaired last wanted (filled wanted f) ≡ filled wanted f
    unfolding repaired
    filled-again f h = go (decimals_of f) refl
      where
        go : (d : ℕ) → decimals_of f ≡ d → repaired last wanted (filled wanted f) ≡ filled wanted f
        go zero e =
            let none : lacking wanted f ≡ 0 = ap (short wanted) e in
            let same : filled wanted f ≡ f = ap (λ (n : ℕ). f ++ replicate n 48) none ∙ append-nil f in
            ap (repaired last wanted) same ∙ ap (filled wanted) (bare_bared last f h)
        go (suc d) e =
            let n = lacking wanted f in
            let some : 0 < decimals_of f = omega (arith, e) in
            let none : lacking wanted (f ++ replicate n 48) ≡ 0 = ap (short wanted) (decimals_more f n some) ∙ short-of (decimals_of f) some in
            ap (filled wanted) (bare_bared last (f ++ replicate n 48) (filled-bare f n h some))
            ∙ ap (λ (m : ℕ). (f ++ replicate n 48) ++ replicate m 48) none ∙ append-nil (f ++ replicate n 48)

    -- a field that was repaired is not changed again
    pub repaired_again : (f : List ℕ) → repaired last wanted (repaired last wanted f) ≡ repaired last wanted f
    unfolding repaired
    repaired_again f = filled-again (bared last f) (bared_bare last f)
