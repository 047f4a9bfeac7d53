-- The laws that the code over a field asks for: each definition by what a library's count or test of bytes says, or by a text's first and last byte. No contract cites this file.
-- In order: the first piece; a field's end; quotes; decimals.
use mathlib.Core.Path.{◌≡◌, refl, sym, ap, ◌∙◌}
use mathlib.Core.Bool.{Bool, true, false, cond, not, ◌&&◌, ◌||◌, false≢true}
use mathlib.Core.List.{List, [], ◌∷◌, ◌++◌}
use Prim.Native.Nat.{ℕ, suc, ◌+◌, ◌-◌, ◌≤◌, ◌<◌}
use native.Mathlib.Nat.{not-suc-le-zero}
use native.Mathlib.Omega.{arith}
use borrow.Author.Tests.{lt-ltb, ne_eqb}
use lib.Dec.{leb, ltb, eqb, eqb-suc-suc}
use lib.ListN.{length, get_or, take, drop, length-take}
use lib.Seq.{take-suc, take-length}
use Rattle.std.specs.List.{prefix_len, list_all}
use Rattle.numbers.proofs.TestLaws.{and_both}
use Rattle.text.specs.Fields.{is_digit}
use Rattle.text.specs.Point.{point}
use Rattle.tidyrules.specs.Cut.{lastly, ended, one_of, onto, cut}
use Rattle.tidyrules.specs.Fields.{quote, empty, edge, untrailed, trimmed, closes, within, quoted, unquoted, digits_only, decimals_past}
use Rattle.tidyrules.proofs.RepairLaws.{untrailed_before}
use Rattle.tidyfields.specs.Pieces.{leading}

-- ---- the first piece
module _ (stop other : ℕ) where
  pub leading_take : (s : List ℕ) → take (length (leading stop other s)) s ≡ leading stop other s
  leading_take [] = refl
  leading_take (b ∷ s) = go (one_of stop other b) (leading_take s)
    where
      go : (t : Bool) → take (length (leading stop other s)) s ≡ leading stop other s → take (length (cond t [] (b ∷ leading stop other s))) (b ∷ s) ≡ cond t [] (b ∷ leading stop other s)
      go true ih = refl
      go false ih = ap (λ (l : List ℕ). b ∷ l) ih

  pub leading_le : (s : List ℕ) → length (leading stop other s) ≤ length s
  leading_le s = omega (arith, ap length (leading_take s), length-take (length (leading stop other s)) s)

  -- it is all of the text, or a byte that is one of the two follows it
  pub cut_lastly : (s : List ℕ) → length s ≤ length (leading stop other s) → cut stop other s ≡ lastly (leading stop other s)
  cut_lastly [] h = refl
  cut_lastly (b ∷ s) h = go (one_of stop other b) (λ k. cut_lastly s k) h
    where
      go : (t : Bool) → (length s ≤ length (leading stop other s) → cut stop other s ≡ lastly (leading stop other s)) → length (b ∷ s) ≤ length (cond t [] (b ∷ leading stop other s))
          → cond t (ended [] b (cut stop other s)) (onto b (cut stop other s)) ≡ lastly (cond t [] (b ∷ leading stop other s))
      go true ih k = absurd (not-suc-le-zero {n = 0} (omega arith))
      go false ih k = ap (onto b) (ih (omega arith))

  pub cut_ended : (s : List ℕ) → length (leading stop other s) < length s
      → cut stop other s ≡ ended (leading stop other s) (get_or s (length (leading stop other s)) 0) (cut stop other (drop (suc (length (leading stop other s))) s))
  cut_ended [] h = absurd (not-suc-le-zero {n = 0} (omega arith))
  cut_ended (b ∷ s) h = go (one_of stop other b) (λ k. cut_ended s k) h
    where
      go : (t : Bool) → (length (leading stop other s) < length s → cut stop other s ≡ ended (leading stop other s) (get_or s (length (leading stop other s)) 0) (cut stop other (drop (suc (length (leading stop other s))) s)))
          → length (cond t [] (b ∷ leading stop other s)) < length (b ∷ s)
          → cond t (ended [] b (cut stop other s)) (onto b (cut stop other s))
          ≡ ended (cond t [] (b ∷ leading stop other s)) (get_or (b ∷ s) (length (cond t [] (b ∷ leading stop other s))) 0) (cut stop other (drop (suc (length (cond t [] (b ∷ leading stop other s)))) (b ∷ s)))
      go true ih k = refl
      go false ih k = ap (onto b) (ih (omega arith))

  -- what `take_while` counts
  pub leading_length : (s : List ℕ) → prefix_len (λ b. not (eqb b stop) && not (eqb b other)) s ≡ length (leading stop other s)
  leading_length [] = refl
  leading_length (b ∷ s) = go (eqb b stop) (eqb b other) (leading_length s)
    where
      go : (t u : Bool) → prefix_len (λ b. not (eqb b stop) && not (eqb b other)) s ≡ length (leading stop other s) → cond (not t && not u) (1 + prefix_len (λ b. not (eqb b stop) && not (eqb b other)) s) 0 ≡ length (cond (t || u) [] (b ∷ leading stop other s))
      go true u ih = refl
      go false true ih = refl
      go false false ih = omega (arith, ih)

-- ---- a field's end
module _ (last : Bool) where
  untrailed-drops : (p : List ℕ) (b : ℕ) → edge last b ≡ true → untrailed last (p ++ (b ∷ [])) ≡ untrailed last p
  untrailed-drops [] b h = rw h
  untrailed-drops (a ∷ p) b h = rw (untrailed-drops p b h)

  untrailed-keeps : (p : List ℕ) (b : ℕ) → edge last b ≡ false → untrailed last (p ++ (b ∷ [])) ≡ p ++ (b ∷ [])
  untrailed-keeps p b h = untrailed_before last p b [] (rw h)

  pub end_none : (s : List ℕ) → length s < 1 → untrailed last s ≡ s
  end_none [] h = refl
  end_none (b ∷ s) h = absurd (not-suc-le-zero {n = 0} (omega arith))

  -- the last byte of a text, and those before it
  module _ (f : List ℕ) (h : 1 ≤ length f) where
    front : f ≡ take (length f - 1) f ++ (get_or f (length f - 1) 0 ∷ [])
    front =
        let k : suc (length f - 1) ≡ length f = omega arith in
        sym (take-length f) ∙ ap (λ (n : ℕ). take n f) (sym k) ∙ take-suc f (length f - 1) 0 (omega arith)

    pub end_drops : edge last (get_or f (length f - 1) 0) ≡ true → untrailed last (take (length f - 1) f) ≡ untrailed last f
    end_drops q = sym (ap (untrailed last) front ∙ untrailed-drops (take (length f - 1) f) (get_or f (length f - 1) 0) q)

    pub end_keeps : edge last (get_or f (length f - 1) 0) ≡ false → untrailed last f ≡ f
    end_keeps q = ap (untrailed last) front ∙ untrailed-keeps (take (length f - 1) f) (get_or f (length f - 1) 0) q ∙ sym front

-- ---- quotes
-- a byte that stands between quotes
abbrev pub inside : ℕ → Bool
inside b = not (eqb b quote) && (leb 32 b && ltb b 127)

closes_last : (w : List ℕ) (q : ℕ) → closes (w ++ (q ∷ [])) ≡ (eqb q quote && list_all inside w)
closes_last [] q = go (eqb q quote) (leb 32 q) (ltb q 127)
  where
    go : (t u v : Bool) → cond t true (u && (v && false)) ≡ (t && true)
    go true u v = refl
    go false true true = refl
    go false true false = refl
    go false false v = refl
closes_last (b ∷ w) q = go w (eqb b quote) (leb 32 b) (ltb b 127) (eqb q quote) (list_all inside w) (closes_last w q)
  where
    no : (w : List ℕ) → empty (w ++ (q ∷ [])) ≡ false
    no [] = refl
    no (a ∷ w) = refl

    both : (t : Bool) → false ≡ (t && false)
    both true = refl
    both false = refl

    go : (w : List ℕ) (t u v x y : Bool) → closes (w ++ (q ∷ [])) ≡ (x && y) → cond t (empty (w ++ (q ∷ []))) (u && (v && closes (w ++ (q ∷ [])))) ≡ (x && ((not t && (u && v)) && y))
    go w true u v x y ih = no w ∙ both x
    go w false true true x y ih = ih
    go w false true false x y ih = both x
    go w false false v x y ih = both x

-- a text of two bytes and more, by its first and last byte and those between
pub quoted_ends : (f : List ℕ) → 2 ≤ length f → (eqb (get_or f 0 0) quote && (eqb (get_or f (length f - 1) 0) quote && list_all inside (take (length f - 1 - 1) (drop 1 f)))) ≡ quoted f
quoted_ends [] h = absurd (not-suc-le-zero {n = 0} (omega arith))
quoted_ends (b ∷ []) h = absurd (not-suc-le-zero {n = 0} (omega arith))
quoted_ends (b ∷ (a ∷ s)) h =
    let n : length (b ∷ (a ∷ s)) - 1 ≡ suc (length (a ∷ s) - 1) = omega arith in
    let m : length (b ∷ (a ∷ s)) - 1 - 1 ≡ length (a ∷ s) - 1 = omega arith in
    rw (m, n) (ap (λ (t : Bool). eqb b quote && t) (sym (ap closes (front true (a ∷ s) (omega arith)) ∙ closes_last (take (length (a ∷ s) - 1) (a ∷ s)) (get_or (a ∷ s) (length (a ∷ s) - 1) 0))))

-- what stands between the quotes: all but the last byte
closes_within : (s : List ℕ) → closes s ≡ true → (0 < length s) × (take (length s - 1) s ≡ within s)
closes_within [] h = absurd (false≢true h)
closes_within (b ∷ s) h = go (eqb b quote) (λ k. closes_within s k) h
  where
    ends : (r : List ℕ) → empty r ≡ true → take (length (b ∷ r) - 1) (b ∷ r) ≡ []
    ends [] e = refl
    ends (c ∷ r) e = absurd (false≢true e)

    more : (0 < length s) × (take (length s - 1) s ≡ within s) → take (length (b ∷ s) - 1) (b ∷ s) ≡ b ∷ within s
    more w =
        let k : length (b ∷ s) - 1 ≡ suc (length s - 1) = omega (arith, w.0) in
        ap (λ (n : ℕ). take n (b ∷ s)) k ∙ ap (λ (l : List ℕ). b ∷ l) w.1

    go : (t : Bool) → (closes s ≡ true → (0 < length s) × (take (length s - 1) s ≡ within s)) → cond t (empty s) (leb 32 b && (ltb b 127 && closes s)) ≡ true
        → (0 < length (b ∷ s)) × (take (length (b ∷ s) - 1) (b ∷ s) ≡ cond t [] (b ∷ within s))
    go true ih e = (omega arith, ends s e)
    go false ih e =
        let w = (and_both (leb 32 b) (ltb b 127 && closes s) e).1 in
        (omega arith, more (ih (and_both (ltb b 127) (closes s) w).1))

pub unquoted_part : (last : Bool) (f : List ℕ) → quoted f ≡ true → trimmed last (take (length f - 1 - 1) (drop 1 f)) ≡ unquoted last f
unquoted_part last [] e = absurd (false≢true e)
unquoted_part last (b ∷ s) e =
    let k : length (b ∷ s) - 1 - 1 ≡ length s - 1 = omega arith in
    rw e (ap (trimmed last) (ap (λ (n : ℕ). take n s) k ∙ (closes_within s (and_both (eqb b quote) (closes s) e).1).1))

pub unquoted_not : (last : Bool) (f : List ℕ) → quoted f ≡ false → f ≡ unquoted last f
unquoted_not last [] e = refl
unquoted_not last (b ∷ s) e = rw e

-- ---- decimals
digits-all : (s : List ℕ) → eqb (prefix_len is_digit s) (length s) ≡ digits_only s
digits-all [] = refl
digits-all (b ∷ s) = go (is_digit b) (digits-all s)
  where
    go : (t : Bool) → eqb (prefix_len is_digit s) (length s) ≡ digits_only s → eqb (cond t (1 + prefix_len is_digit s) 0) (length (b ∷ s)) ≡ (t && digits_only s)
    go true ih =
        let e : 1 + prefix_len is_digit s ≡ suc (prefix_len is_digit s) = omega arith in
        rw (e, eqb-suc-suc) ih
    go false ih = ne_eqb 0 (length (b ∷ s)) (λ z. not-suc-le-zero {n = 0} (omega arith))

-- what a text says from the byte on that stands behind its first digits
abbrev pub behind : (some : Bool) → List ℕ → ℕ
behind some rest = cond (some && (eqb (get_or rest 0 0) point && eqb (prefix_len is_digit (drop 1 rest)) (length (drop 1 rest)))) (length (drop 1 rest)) 0

past-behind : (some : Bool) (s : List ℕ) → behind (ltb 0 (prefix_len is_digit s) || some) (drop (prefix_len is_digit s) s) ≡ decimals_past some s
past-behind true [] = refl
past-behind false [] = refl
past-behind some (b ∷ s) = go (is_digit b) (past-behind true s)
  where
    or-true : (t : Bool) → (t || true) ≡ true
    or-true true = refl
    or-true false = refl

    go : (t : Bool) → behind (ltb 0 (prefix_len is_digit s) || true) (drop (prefix_len is_digit s) s) ≡ decimals_past true s
        → behind (ltb 0 (cond t (1 + prefix_len is_digit s) 0) || some) (drop (cond t (1 + prefix_len is_digit s) 0) (b ∷ s)) ≡ cond t (decimals_past true s) (cond (some && (eqb b point && digits_only s)) (length s) 0)
    go true ih =
        let e : 1 + prefix_len is_digit s ≡ suc (prefix_len is_digit s) = omega arith in
        rw (e, lt-ltb 0 (suc (prefix_len is_digit s)) (omega arith)) (rw (or-true (ltb 0 (prefix_len is_digit s))) at ih)
    go false ih = rw digits-all

pub past_behind : (f rest : List ℕ) → rest ≡ drop (prefix_len is_digit f) f → behind (ltb 0 (prefix_len is_digit f)) rest ≡ decimals_past false f
past_behind f rest e = rw e (ap (λ (t : Bool). behind t (drop (prefix_len is_digit f) f)) (sym (or-false (ltb 0 (prefix_len is_digit f)))) ∙ past-behind false f)
  where
    or-false : (t : Bool) → (t || false) ≡ t
    or-false true = refl
    or-false false = refl
