-- How far the bytes of a number are good: the bytes up to the first bad one decide (`number-local`), and the bytes before it can be continued to a number (`Grown`).
-- No contract cites this file.
use mathlib.Core.Path.{◌≡◌, refl, sym, ap, subst, ◌∙◌}
use mathlib.Core.Bool.{Bool, true, false, cond, ◌&&◌, and-false}
use mathlib.Core.Logic.{◌⊎◌, inl, inr, ⊎_elim}
use mathlib.Core.List.{List, [], ◌∷◌, ◌++◌, append-nil}
use Prim.Native.Nat.{ℕ, zero, suc, ◌+◌, ◌≤◌, ◌<◌, min}
use native.Mathlib.Nat.{not-suc-le-zero}
use native.Mathlib.Omega.{arith}
use lib.Dec.{ltb, eqb}
use lib.ListN.{length, get_or, take, drop, length-append, length-drop, length-take}
use lib.Seq.{get_or-take, get_or-append_seam, take-take, length-take-le}
use borrow.Author.Tests.{ltb-true, ltb-false, eqb-true, eqb-false, lt-ltb, eq-eqb}
use Rattle.text.specs.Fields.{is_digit, digits, value, plain, first_bad, number_at, positive}
use Rattle.numbers.proofs.BelowLaws.{le_or_lt}
use Rattle.text.proofs.NumberTrip.{plain_true, digits_app, digits_twice, no_value}
use Rattle.text.proofs.NumberLaws.{plain_none, plain_long, plain_zero}
use Rattle.faults.proofs.AgreeLaws.{agree_drop}
use Rattle.std.specs.Prelude.{Ok, Err, is_ok}

-- s begins with a number that `stop` ends
abbrev pub num : (s : List ℕ) → (stop : ℕ) → Bool
num s stop = plain (digits s) && (ltb (length (digits s)) (length s) && eqb (get_or s (length (digits s)) 0) stop)

-- how many bytes of s a good number could have
abbrev pub off : List ℕ → ℕ
off s = cond (ltb 1 (length (digits s)) && eqb (get_or (digits s) 0 0) 48) 1 (min (length (digits s)) 10)

-- ---- digits of a front part
pub digits_take : (k : ℕ) (s : List ℕ) → digits (take k s) ≡ take k (digits s)
digits_take zero s = refl
digits_take (suc k) [] = refl
digits_take (suc k) (b ∷ s) = go (digits_take k s) (is_digit b)
  where
    go : digits (take k s) ≡ take k (digits s) → (t : Bool) → cond t (b ∷ digits (take k s)) [] ≡ take (suc k) (cond t (b ∷ digits s) [])
    go ih true = ap (λ (l : List ℕ). b ∷ l) ih
    go ih false = refl

take_digits : (k : ℕ) (s : List ℕ) → k ≤ length (digits s) → take k (digits s) ≡ take k s
take_digits zero s h = refl
take_digits (suc k) [] h = refl
take_digits (suc k) (b ∷ s) h = go (take_digits k s) (is_digit b) h
  where
    go : (k ≤ length (digits s) → take k (digits s) ≡ take k s) → (t : Bool) → suc k ≤ length (cond t (b ∷ digits s) []) → take (suc k) (cond t (b ∷ digits s) []) ≡ b ∷ take k s
    go ih true h = ap (λ (l : List ℕ). b ∷ l) (ih (omega arith))
    go ih false h = absurd (not-suc-le-zero h)

-- ---- the three ways in which the digits of s end being good
pub data Ends (ds : List ℕ) (k : ℕ) : Type 0 where
  lead : 1 < length ds → get_or ds 0 0 ≡ 48 → k ≡ 1 → Ends ds k
  long : 10 < length ds → (get_or ds 0 0 ≡ 48 → ⊥) → k ≡ 10 → Ends ds k
  few : length ds ≤ 10 → (length ds ≤ 1) ⊎ (get_or ds 0 0 ≡ 48 → ⊥) → k ≡ length ds → Ends ds k

pub ends : (s : List ℕ) → Ends (digits s) (off s)
ends s = go (ltb 1 (length (digits s))) refl (eqb (get_or (digits s) 0 0) 48) refl
  where
    rest : (k : ℕ) → k ≡ min (length (digits s)) 10 → (length (digits s) ≤ 1) ⊎ (get_or (digits s) 0 0 ≡ 48 → ⊥) → Ends (digits s) k
    rest k e o =
        ⊎_elim
        (λ (h : length (digits s) ≤ 10). few h o (omega arith))
        (λ (h : 10 < length (digits s)). ⊎_elim (λ (x : length (digits s) ≤ 1). absurd (omega arith)) (λ (n : get_or (digits s) 0 0 ≡ 48 → ⊥). long h n (omega arith)) o)
        (le_or_lt (length (digits s)) 10)

    go : (t : Bool) → ltb 1 (length (digits s)) ≡ t → (u : Bool) → eqb (get_or (digits s) 0 0) 48 ≡ u → Ends (digits s) (cond (t && u) 1 (min (length (digits s)) 10))
    go true p true q = lead (ltb-true _ _ p) (eqb-true _ _ q) refl
    go true p false q = rest _ refl (inr (eqb-false _ _ q))
    go false p u q = rest _ refl (inl (ltb-false _ _ p))

-- ---- with the byte at which they end being good, nothing that follows makes a number
and_no : (t u : Bool) → t ≡ false → (t && u) ≡ false
and_no t u e = rw e

pub number_local : (s o : List ℕ) (stop : ℕ) → take (off s + 1) o ≡ take (off s + 1) s → off s < length s → num s stop ≡ false → num o stop ≡ false
number_local s o stop a h n = go (off s) a h (ends s)
  where
    go : (k : ℕ) → take (k + 1) o ≡ take (k + 1) s → k < length s → Ends (digits s) k → num o stop ≡ false
    go k a h e = by e
      where
        front : take (k + 1) (digits o) ≡ take (k + 1) (digits s)
        front = sym (digits_take (k + 1) o) ∙ ap digits a ∙ digits_take (k + 1) s

        size : min (k + 1) (length (digits o)) ≡ min (k + 1) (length (digits s))
        size = sym (length-take (k + 1) (digits o)) ∙ ap length front ∙ length-take (k + 1) (digits s)

        by : Ends (digits s) k → num o stop ≡ false
        by (lead l z q) =
            let f : get_or (digits o) 0 0 ≡ 48 = sym (get_or-take (k + 1) (digits o) 0 0 (omega arith)) ∙ ap (λ (l : List ℕ). get_or l 0 0) front ∙ get_or-take (k + 1) (digits s) 0 0 (omega arith) ∙ z in
            and_no _ _ (plain_zero (digits o) (omega (arith, size)) f)
        by (long l z q) = and_no _ _ (plain_long (digits o) (omega (arith, size)))
        by (few l z q) =
            let same : length (digits o) ≡ k = omega (arith, size) in
            let next : get_or o k 0 ≡ get_or s k 0 = sym (get_or-take (k + 1) o k 0 (omega arith)) ∙ ap (λ (l : List ℕ). get_or l k 0) a ∙ get_or-take (k + 1) s k 0 (omega arith) in
            ⊎_elim
            (λ (p : k ≤ 0). and_no _ _ (plain_none (digits o) (omega arith)))
            (λ (p : 0 < k).
            let good : plain (digits s) ≡ true = plain_true (digits s) (omega arith) l z in
            let within : length (digits s) < length s = omega arith in
            let m : eqb (get_or s (length (digits s)) 0) stop ≡ false = rw (good, lt-ltb _ _ within) at n in
            let x : eqb (get_or o (length (digits o)) 0) stop ≡ false = ap (λ (j : ℕ). eqb (get_or o j 0) stop) same ∙ ap (λ (y : ℕ). eqb y stop) next ∙ ap (λ (j : ℕ). eqb (get_or s j 0) stop) q ∙ m in
            rw (x, and-false (ltb (length (digits o)) (length o)), and-false (plain (digits o))))
            (le_or_lt k 0)

-- ---- the bytes before it can be continued to a number
pub num_of : (d r : List ℕ) (stop : ℕ) → is_digit stop ≡ false → digits d ≡ d → plain d ≡ true → num (d ++ (stop ∷ r)) stop ≡ true
num_of d r stop n e p =
    let q : digits (d ++ (stop ∷ r)) ≡ d = digits_app d (stop ∷ r) e ∙ rw n (append-nil d) in
    let l : length d < length (d ++ (stop ∷ r)) = rw (length-append d (stop ∷ r)) (omega arith) in
    rw (q, p, lt-ltb _ _ l, get_or-append_seam d stop r 0, eq-eqb stop stop refl)

pub record Grown (s : List ℕ) (k : ℕ) : Type 0 where
  pub text : List ℕ
  pub all : digits text ≡ text
  pub is_plain : plain text ≡ true
  pub high : k ≤ length text
  pub front : take k text ≡ take k s
  pub not_zero : (get_or s 0 0 ≡ 48 → ⊥) → get_or text 0 0 ≡ 48 → ⊥
  pub few : (m : ℕ) → 0 < m → k ≤ m → length text ≤ m

abbrev pub grown_none : (s : List ℕ) → Grown s 0
grown_none s = record { text = 49 ∷ []; all = refl; is_plain = refl; high = omega arith; front = refl; not_zero = λ n e. omega arith; few = λ m p h. omega arith }

-- the first k digits; where they are more than one, the first is no zero
pub grown_some : (s : List ℕ) (k : ℕ) → 0 < k → k ≤ 10 → k ≤ length (digits s) → (k ≤ 1) ⊎ (get_or (digits s) 0 0 ≡ 48 → ⊥) → Grown s k
grown_some s k p t h o =
    let long : length (take k (digits s)) ≡ k = length-take-le k (digits s) h in
    let first : get_or (take k (digits s)) 0 0 ≡ get_or (digits s) 0 0 = get_or-take k (digits s) 0 0 p in
    let same : take k (digits s) ≡ take k s = take_digits k s h in
    record {
      text = take k (digits s);
      all = digits_take k (digits s) ∙ ap (take k) (digits_twice s);
      is_plain = plain_true (take k (digits s)) (omega arith) (omega arith) (⊎_elim (λ (x : k ≤ 1). inl (omega arith)) (λ (x : get_or (digits s) 0 0 ≡ 48 → ⊥). inr (λ e. x (sym first ∙ e))) o);
      high = omega arith;
      front = take-take k k (digits s) (omega arith) ∙ same;
      not_zero = λ n e. n (sym (get_or-take k s 0 0 p) ∙ sym (ap (λ (l : List ℕ). get_or l 0 0) same) ∙ e);
      few = λ m q l. omega arith;
    }

pub grown : (s : List ℕ) → Grown s (off s)
grown s = go (off s) (ends s)
  where
    go : (k : ℕ) → Ends (digits s) k → Grown s k
    go k (lead l z q) = grown_some s k (omega arith) (omega arith) (omega arith) (inl (omega arith))
    go k (long l z q) = grown_some s k (omega arith) (omega arith) (omega arith) (inr z)
    go k (few l z q) =
        ⊎_elim
        (λ (p : k ≤ 0). let e : 0 ≡ k = omega arith in subst (λ (j : ℕ). Grown s j) e (grown_none s))
        (λ (p : 0 < k). grown_some s k p (omega arith) (omega arith) (⊎_elim (λ (x : length (digits s) ≤ 1). inl (omega arith)) (λ (x : get_or (digits s) 0 0 ≡ 48 → ⊥). inr x) z))
        (le_or_lt k 0)

-- ---- a number at a place of a line
pub whole_number : (line : List ℕ) (at stop : ℕ) → is_ok (positive (number_at line at stop)) ≡ num (drop at line) stop
unfolding number_at
whole_number line at stop = go (num (drop at line) stop)
  where
    go : (t : Bool) → is_ok (positive (cond t (Ok (value 0 (digits (drop at line)), at + length (digits (drop at line)) + 1)) (Err (first_bad (digits (drop at line)) at)))) ≡ t
    go true = refl
    go false = refl

pub place_number : (line : List ℕ) (at stop place : ℕ) → positive (number_at line at stop) ≡ Err place → place ≡ at + off (drop at line)
unfolding number_at
place_number line at stop place e = go (num (drop at line) stop) e
  where
    go : (t : Bool) → positive (cond t (Ok (value 0 (digits (drop at line)), at + length (digits (drop at line)) + 1)) (Err (first_bad (digits (drop at line)) at))) ≡ Err place → place ≡ at + off (drop at line)
    go true e = absurd (no_value place _ _ (sym e))
    go false e = cc

-- a number is bad by its bytes up to its bad place, whatever follows
module _ (line other : List ℕ) (stop place : ℕ) (within : place < length line) (a : take (place + 1) other ≡ take (place + 1) line) where
  pub number_no : (p : ℕ) → p ≤ length line → place ≡ p + off (drop p line) → num (drop p line) stop ≡ false → num (drop p other) stop ≡ false
  number_no p l e n =
      let m : place + 1 ≡ p + (off (drop p line) + 1) = omega arith in
      let b : take (p + (off (drop p line) + 1)) other ≡ take (p + (off (drop p line) + 1)) line = subst (λ (k : ℕ). take k other ≡ take k line) m a in
      number_local (drop p line) (drop p other) stop (agree_drop line other p (off (drop p line) + 1) l b) (omega (arith, length-drop p line)) n
