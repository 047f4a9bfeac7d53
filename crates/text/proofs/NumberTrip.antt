-- The decimal text of a number, and the two round trips: what is written reads as itself, and what is read is written as itself. No contract cites this file.
use Prim.Native.Nat.{ℕ, zero, suc, ◌+◌, ◌*◌, ◌-◌, ◌/◌, ◌%◌, ◌^◌, ◌≤◌, ◌<◌}
use mathlib.Core.Path.{◌≡◌, refl, sym, ap, ap₂, subst, ◌∙◌}
use mathlib.Core.Bool.{Bool, true, false, cond, not, ◌||◌, false≢true, or-true}
use mathlib.Core.Logic.{◌⊎◌, inl, inr, ⊎_elim}
use mathlib.Core.List.{List, [], ◌∷◌, ◌++◌, append_assoc, append-nil}
use native.Mathlib.Nat.{lt_of_lt_of_le, pow-le-pow_right, add-zero, add-suc, suc-add, add_assoc, pow-suc, pow-zero, div-lt_iff_lt-mul}
use native.Mathlib.Numerals.{add-one}
use native.Mathlib.Omega.{arith}
use lib.Arith.{digits_lt}
use lib.Dec.{leb, ltb, eqb, lit<}
use lib.IntN.{ℤ, pos, negsuc, nat_abs}
use lib.ListN.{length, get_or, drop, length-append, length-drop, get_or-append}
use lib.Seq.{drop-append-add, drop-cons, get_or-drop, drop-drop, get_or-append_seam}
use borrow.Author.Tests.{leb-true, ltb-true, ltb-false, eqb-true, eqb-false, le-leb, lt-ltb, le-ltb, eq-eqb, ne_eqb}
pub use Rattle.numbers.proofs.TestLaws.{zero_one, and_both}
use Rattle.text.specs.Fields.{Parsed, is_digit, digits, value, plain, number_at, positive, negative, signed_at}
use Rattle.text.specs.Written.{text_of, decimal, decimal_ℤ}
use Rattle.std.specs.Prelude.{Ok, Err}

pub digit_range : (b : ℕ) → is_digit b ≡ true → (48 ≤ b) × (b < 58)
digit_range b e = (leb-true 48 b (and_both (leb 48 b) (ltb b 58) e).0, ltb-true b 58 (and_both (leb 48 b) (ltb b 58) e).1)

-- ten to the power, and one digit more
pub more_digits : (v d n : ℕ) → v < 10 ^ n → d < 10 → v * 10 + d < 10 ^ suc n
more_digits v d n p q = rw (pow-suc 10 n) (digits_lt {m = 10 ^ n} p q)

module _ (d : List ℕ) where
  pub plain_true : 0 < length d → length d ≤ 10 → (length d ≤ 1) ⊎ (get_or d 0 0 ≡ 48 → ⊥) → plain d ≡ true
  plain_true h k o =
      rw (lt-ltb 0 (length d) h, le-leb (length d) 10 k)
      (⊎_elim (λ (a : length d ≤ 1). rw (le-leb (length d) 1 a)) (λ (b : get_or d 0 0 ≡ 48 → ⊥). rw (ne_eqb (get_or d 0 0) 48 b) (or-true (leb (length d) 1))) o)

split : (n : ℕ) → (n < 10) ⊎ (10 ≤ n)
split n = go (ltb n 10) refl
  where
    go : (t : Bool) → ltb n 10 ≡ t → (n < 10) ⊎ (10 ≤ n)
    go true e = inl (ltb-true n 10 e)
    go false e = inr (ltb-false n 10 e)

pub text_one : (f n : ℕ) → n < 10 → text_of (suc f) n ≡ (48 + n) ∷ []
unfolding text_of
text_one f n h = rw (lt-ltb n 10 h)

pub text_more : (f n : ℕ) → 10 ≤ n → text_of (suc f) n ≡ text_of f (n / 10) ++ ((48 + n % 10) ∷ [])
unfolding text_of
text_more f n h = rw (le-ltb n 10 h)

-- ---- decimal: any number of digits that suffices gives the same text
ten_pow : (f : ℕ) → 10 ^ suc f ≡ 10 ^ f * 10
ten_pow f = pow-suc 10 f

pub text_enough : (f g n : ℕ) → n < 10 ^ suc f → n < 10 ^ suc g → text_of (suc f) n ≡ text_of (suc g) n
text_enough zero g n a b =
    let s : n < 10 = omega (arith, ten_pow 0, pow-zero 10) in
    text_one zero n s ∙ sym (text_one g n s)
text_enough (suc f) zero n a b =
    let s : n < 10 = omega (arith, ten_pow 0, pow-zero 10) in
    text_one (suc f) n s ∙ sym (text_one zero n s)
text_enough (suc f) (suc g) n a b =
    ⊎_elim
    (λ s. text_one (suc f) n s ∙ sym (text_one (suc g) n s))
    (λ s. text_more (suc f) n s ∙ ap (λ (l : List ℕ). l ++ ((48 + n % 10) ∷ [])) (text_enough f g (n / 10) (omega (arith, ten_pow (suc f))) (omega (arith, ten_pow (suc g)))) ∙ sym (text_more (suc g) n s))
    (split n)

pub under_pow : (n : ℕ) → n < 10 ^ suc n
under_pow zero = omega (arith, ten_pow 0, pow-zero 10)
under_pow (suc n) = omega (arith, under_pow n, ten_pow (suc n))

pub decimal_of : (f n : ℕ) → n < 10 ^ suc f → decimal n ≡ text_of (suc f) n
unfolding decimal
decimal_of f n h = text_enough n f n (under_pow n) h

pub decimal_ten : (n : ℕ) → n < 10 ^ 10 → decimal n ≡ text_of 10 n
decimal_ten n h = decimal_of 9 n h

pub is_digit_lem : (d : ℕ) → d < 10 → is_digit (48 + d) ≡ true
is_digit_lem d h =
    let a : 48 ≤ 48 + d = omega arith in
    let b : 48 + d < 58 = omega arith in
    rw (le-leb 48 (48 + d) a, lt-ltb (48 + d) 58 b)

pub digits_cons : (b : ℕ) (s : List ℕ) → digits (b ∷ s) ≡ b ∷ s → (is_digit b ≡ true) × (digits s ≡ s)
digits_cons b s e = go (is_digit b) e
  where
    go : (t : Bool) → cond t (b ∷ digits s) [] ≡ b ∷ s → (t ≡ true) × (digits s ≡ s)
    go true e = (refl, cc)
    go false e = let z : ◌≡◌ {A = ℕ} 0 1 = cc in absurd (zero_one z)

pub digits_app : (s r : List ℕ) → digits s ≡ s → digits (s ++ r) ≡ s ++ digits r
digits_app [] r e = refl
digits_app (b ∷ s) r e =
    let k = digits_cons b s e in
    rw (k.0, digits_app s r k.1)

pub digits_twice : (s : List ℕ) → digits (digits s) ≡ digits s
digits_twice [] = refl
digits_twice (b ∷ s) = go (digits_twice s) (is_digit b) refl
  where
    go : digits (digits s) ≡ digits s → (t : Bool) → is_digit b ≡ t → digits (cond t (b ∷ digits s) []) ≡ cond t (b ∷ digits s) []
    go ih true e = rw (e, ih)
    go ih false e = refl

pub digits_split : (s : List ℕ) → s ≡ digits s ++ drop (length (digits s)) s
digits_split [] = refl
digits_split (b ∷ s) = go (digits_split s) (is_digit b)
  where
    go : s ≡ digits s ++ drop (length (digits s)) s → (t : Bool) → b ∷ s ≡ cond t (b ∷ digits s) [] ++ drop (length (cond t (b ∷ digits s) [])) (b ∷ s)
    go ih true = ap (λ (l : List ℕ). b ∷ l) ih
    go ih false = refl

pub text_digits : (f n : ℕ) → digits (text_of f n) ≡ text_of f n
unfolding text_of
text_digits zero n = refl
text_digits (suc f) n =
    ⊎_elim
    (λ (h : n < 10). rw (text_one f n h, is_digit_lem n h))
    (λ (h : 10 ≤ n). rw (text_more f n h) (digits_app (text_of f (n / 10)) _ (text_digits f (n / 10)) ∙ ap (λ (l : List ℕ). text_of f (n / 10) ++ l) (rw (is_digit_lem (n % 10) (omega arith)))))
    (split n)

pub value_snoc : (v : ℕ) (s : List ℕ) (d : ℕ) → value v (s ++ (d ∷ [])) ≡ value v s * 10 + (d - 48)
value_snoc v [] d = refl
value_snoc v (b ∷ s) d = value_snoc (v * 10 + (b - 48)) s d

pub text_value : (f n : ℕ) → n < 10 ^ f → value 0 (text_of f n) ≡ n
unfolding text_of
text_value zero n h = omega arith
text_value (suc f) n h =
    ⊎_elim
    (λ (k : n < 10). rw (text_one f n k) (omega arith))
    (λ (k : 10 ≤ n).
    let q : n / 10 < 10 ^ f = (div-lt_iff_lt-mul {k = 10} {x = n} {y = 10 ^ f} (lit< tt)).1 (rw (pow-suc 10 f) at h) in
    rw (text_more f n k, value_snoc 0 (text_of f (n / 10)) (48 + n % 10), text_value f (n / 10) q) (omega arith))
    (split n)

pub text_le : (f n : ℕ) → length (text_of f n) ≤ f
unfolding text_of
text_le zero n = omega arith
text_le (suc f) n =
    ⊎_elim
    (λ (k : n < 10). rw (text_one f n k) (omega arith))
    (λ (k : 10 ≤ n). rw (text_more f n k, length-append (text_of f (n / 10)) ((48 + n % 10) ∷ [])) (omega (arith, text_le f (n / 10))))
    (split n)

pub text_some : (f n : ℕ) → 0 < length (text_of (suc f) n)
text_some f n =
    ⊎_elim
    (λ (k : n < 10). rw (text_one f n k) (omega arith))
    (λ (k : 10 ≤ n). rw (text_more f n k, length-append (text_of f (n / 10)) ((48 + n % 10) ∷ [])) (omega arith))
    (split n)

pub text_first : (f n : ℕ) → 0 < n → n < 10 ^ f → get_or (text_of f n) 0 0 ≡ 48 → ⊥
unfolding text_of
text_first zero n p h e = omega arith
text_first (suc zero) n p h e = omega (arith, (rw (text_one zero n h) at e))
text_first (suc (suc f)) n p h e =
    ⊎_elim
    (λ (k : n < 10). omega (arith, (rw (text_one (suc f) n k) at e)))
    (λ (k : 10 ≤ n).
    let q : n / 10 < 10 ^ suc f = (div-lt_iff_lt-mul {k = 10} {x = n} {y = 10 ^ suc f} (lit< tt)).1 (rw (pow-suc 10 (suc f)) at h) in
    text_first (suc f) (n / 10) (omega arith) q
    (sym (get_or-append (text_of (suc f) (n / 10)) ((48 + n % 10) ∷ []) 0 0 (text_some f (n / 10))) ∙ (rw (text_more (suc f) n k) at e)))
    (split n)

-- ---- what is written reads as itself
ten_plain : (n : ℕ) → n < 10 ^ 10 → plain (text_of 10 n) ≡ true
unfolding text_of
ten_plain zero h = refl
ten_plain (suc n) h =
    let p : 0 < suc n = omega arith in
    plain_true (text_of 10 (suc n)) (text_some 9 (suc n)) (text_le 10 (suc n)) (inr (text_first 10 (suc n) p h))

pub decimal_plain : (n : ℕ) → n < 10 ^ 10 → plain (decimal n) ≡ true
decimal_plain n h = ap plain (decimal_ten n h) ∙ ten_plain n h

module _ (line : List ℕ) (at stop n : ℕ) (r : List ℕ) (here : drop at line ≡ decimal n ++ (stop ∷ r)) where
  written-digits : is_digit stop ≡ false → digits (drop at line) ≡ decimal n
  unfolding decimal
  written-digits e = rw (here, digits_app (text_of (suc n) n) (stop ∷ r) (text_digits (suc n) n), e) (append-nil (text_of (suc n) n))

  pub number_written : n < 10 ^ 10 → is_digit stop ≡ false → number_at line at stop ≡ Ok (n, at + length (decimal n) + 1)
  unfolding number_at
  number_written h e =
      let w : value 0 (decimal n) ≡ n = ap (value 0) (decimal_ten n h) ∙ text_value 10 n h in
      let l : length (decimal n) < length (decimal n ++ (stop ∷ r)) = rw (length-append (decimal n) (stop ∷ r)) (omega arith) in
      rw (written-digits e, here, decimal_plain n h, lt-ltb (length (decimal n)) (length (decimal n ++ (stop ∷ r))) l, get_or-append_seam (decimal n) stop r 0, eq-eqb stop stop refl, w)

  pub number_rest : drop (at + length (decimal n) + 1) line ≡ r
  number_rest = rw (add_assoc at (length (decimal n)) 1, ← drop-drop (length (decimal n) + 1) at line, here) (drop-append-add (decimal n) (stop ∷ r) 1)

-- ---- what is read is written as itself
-- digits after a number that is not 0 are pushed to its text's end
pub text_push : (s : List ℕ) (f v : ℕ) → digits s ≡ s → 0 < v → text_of (f + length s) (value v s) ≡ text_of f v ++ s
text_push [] f v e p = rw (add-zero f) (sym (append-nil (text_of f v)))
text_push (b ∷ s) f v e p =
    let k = digits_cons b s e in
    let g = digit_range b k.0 in
    let w = v * 10 + (b - 48) in
    let h : 10 ≤ v * 10 + (b - 48) = omega arith in
    let q : (v * 10 + (b - 48)) / 10 ≡ v = omega arith in
    let m : 48 + (v * 10 + (b - 48)) % 10 ≡ b = omega arith in
    let o : 0 < v * 10 + (b - 48) = omega arith in
    ap (λ (x : ℕ). text_of x (value w s)) (add-suc f (length s) ∙ sym (suc-add f (length s)))
    ∙ text_push s (suc f) w k.1 o
    ∙ ap (λ (l : List ℕ). l ++ s) (text_more f w h ∙ ap₂ (λ (x y : ℕ). text_of f x ++ (y ∷ [])) q m)
    ∙ append_assoc (text_of f v) (b ∷ []) s

or_either : (t u : Bool) → (t || not u) ≡ true → (t ≡ true) ⊎ (u ≡ false)
or_either true u e = inl refl
or_either false true e = inr (sym e)
or_either false false e = inr refl

pub plain_parts : (d : List ℕ) → plain d ≡ true → (0 < length d) × (length d ≤ 10) × ((length d ≤ 1) ⊎ (get_or d 0 0 ≡ 48 → ⊥))
plain_parts d e =
    let a = and_both (ltb 0 (length d)) _ e in
    let b = and_both (leb (length d) 10) _ a.1 in (
      ltb-true _ _ a.0,
      leb-true _ _ b.0,
      ⊎_elim (λ (t : leb (length d) 1 ≡ true). inl (leb-true _ _ t)) (λ (t : eqb (get_or d 0 0) 48 ≡ false). inr (eqb-false _ _ t)) (or_either (leb (length d) 1) (eqb (get_or d 0 0) 48) b.1),
    )

pub value_small : (v n : ℕ) (s : List ℕ) → digits s ≡ s → v < 10 ^ n → value v s < 10 ^ (n + length s)
value_small v n [] e h = rw (add-zero n) h
value_small v n (b ∷ s) e h =
    let k = digits_cons b s e in
    let g = digit_range b k.0 in
    let d : b - 48 < 10 = omega arith in
    rw (add-suc n (length s), ← suc-add n (length s)) (value_small (v * 10 + (b - 48)) (suc n) s k.1 (more_digits v (b - 48) n h d))

ten_value : (d : List ℕ) → plain d ≡ true → digits d ≡ d → text_of 10 (value 0 d) ≡ d
ten_value [] p e = absurd (false≢true p)
ten_value (b ∷ []) p e =
    let g = digit_range b (digits_cons b [] e).0 in
    let h : 0 * 10 + (b - 48) < 10 = omega arith in
    let q : 48 + (0 * 10 + (b - 48)) ≡ b = omega arith in
    rw (text_one 9 (0 * 10 + (b - 48)) h, q)
ten_value (b ∷ c ∷ s) p e =
    let g = digit_range b (digits_cons b (c ∷ s) e).0 in
    let k = plain_parts (b ∷ c ∷ s) p in
    let n : b ≡ 48 → ⊥ = ⊎_elim (λ (l : suc (suc (length s)) ≤ 1). λ (x : b ≡ 48). omega arith) (λ (l : b ≡ 48 → ⊥). l) k.2 in
    let v = 0 * 10 + (b - 48) in
    let m : 0 < 0 * 10 + (b - 48) = omega arith in
    let h : 0 * 10 + (b - 48) < 10 = omega arith in
    let q : 48 + (0 * 10 + (b - 48)) ≡ b = omega arith in
    let t : suc (8 - length s) + length (c ∷ s) ≡ 10 = omega (arith, k.1) in
    ap (λ (x : ℕ). text_of x (value v (c ∷ s))) (sym t)
    ∙ text_push (c ∷ s) (suc (8 - length s)) v (digits_cons b (c ∷ s) e).1 m
    ∙ ap (λ (l : List ℕ). l ++ (c ∷ s)) (text_one (8 - length s) v h ∙ ap (λ (x : ℕ). x ∷ []) q)

pub decimal_value : (d : List ℕ) → plain d ≡ true → digits d ≡ d → decimal (value 0 d) ≡ d
decimal_value d p e =
    let f : 0 + length d ≤ 10 = omega (arith, (plain_parts d p).1) in
    decimal_ten (value 0 d) (lt_of_lt_of_le (value_small 0 0 d e (lit< tt)) (pow-le-pow_right {n = 10} (lit< tt) f)) ∙ ten_value d p e

-- a number that was read: the text at its place is its decimal text, then stop, then what stands after it
pub record Read (line : List ℕ) (at stop v next : ℕ) : Type 0 where
  pub here : drop at line ≡ decimal v ++ (stop ∷ drop next line)
  pub small : v < 10 ^ 10
  pub after : next ≡ at + length (decimal v) + 1
  pub within : next ≤ length line

-- two fields that were read are the same only where values and places are, and none is a place that no good field could have
pub value_is : {A : Type 0} (v w : A) (m n : ℕ) → ◌≡◌ {A = Parsed A} (Ok (v, m)) (Ok (w, n)) → (v ≡ w) × (m ≡ n)
value_is {A} v w m n e = let p : ◌≡◌ {A = A × ℕ} (v, m) (w, n) = cc in (ap (λ (q : A × ℕ). q.0) p, ap (λ (q : A × ℕ). q.1) p)

pub no_value : {A : Type 0} (place : ℕ) (v : A) (n : ℕ) → ◌≡◌ {A = Parsed A} (Err place) (Ok (v, n)) → ⊥
no_value place v n e = let x : ◌≡◌ {A = ℕ} 0 1 = cc in zero_one x

good_only : (v n w m b : ℕ) (t : Bool) → ◌≡◌ {A = Parsed ℕ} (Ok (v, n)) (cond t (Ok (w, m)) (Err b)) → (t ≡ true) × (w ≡ v) × (m ≡ n)
good_only v n w m b true p = let e = value_is w v m n (sym p) in (refl, e.0, e.1)
good_only v n w m b false p = let z : ◌≡◌ {A = ℕ} 0 1 = cc in absurd (zero_one z)

pub number_read : (line : List ℕ) (at stop v next : ℕ) → Ok (v, next) ≡ number_at line at stop → Read line at stop v next
unfolding number_at
number_read line at stop v next p =
    let s = drop at line in
    let d = digits (drop at line) in
    let o = good_only v next (value 0 d) (at + length d + 1) _ _ p in
    let a = and_both (plain d) _ o.0 in
    let b = and_both (ltb (length d) (length s)) _ a.1 in
    let l : length d < length s = ltb-true _ _ b.0 in
    let t = eqb-true (get_or s (length d) 0) stop b.1 in
    let w : decimal v ≡ d = ap decimal (sym o.1) ∙ decimal_value d a.0 (digits_twice s) in
    let k = plain_parts d a.0 in
    let x : at + suc (length d) ≡ next = omega arith in
    let z : drop (suc (length d)) s ≡ drop next line = drop-drop (suc (length d)) at line ∙ ap (λ (y : ℕ). drop y line) x in
    let f : 0 + length d ≤ 10 = omega (arith, k.1) in
    record {
      here = digits_split s ∙ ap₂ (λ (x y : List ℕ). x ++ y) (sym w) (drop-cons s (length d) 0 l ∙ ap₂ (λ (x : ℕ) (y : List ℕ). x ∷ y) t z);
      small = rw (← o.1) (lt_of_lt_of_le (value_small 0 0 d (digits_twice s) (lit< tt)) (pow-le-pow_right {n = 10} (lit< tt) f));
      after = omega (arith, ap length w);
      within = omega (arith, length-drop at line);
    }

pub decimal_digits : (n : ℕ) → digits (decimal n) ≡ decimal n
unfolding decimal
decimal_digits n = text_digits (suc n) n

pub decimal_some : (n : ℕ) → 0 < length (decimal n)
unfolding decimal
decimal_some n = text_some n n

-- ---- signed numbers
module _ (line : List ℕ) (at stop : ℕ) where
  pub signed_plus : eqb (get_or line at 0) 45 ≡ false → positive (number_at line at stop) ≡ signed_at line at stop
  unfolding signed_at
  signed_plus e = rw e

  pub signed_minus : eqb (get_or line at 0) 45 ≡ true → negative (get_or line (at + 1) 0) (at + 1) (number_at line (at + 1) stop) ≡ signed_at line at stop
  unfolding signed_at
  signed_minus e = rw e

pub record ReadZ (line : List ℕ) (at stop : ℕ) (z : ℤ) (next : ℕ) : Type 0 where
  pub here : drop at line ≡ decimal_ℤ z ++ (stop ∷ drop next line)
  pub small : nat_abs z < 10 ^ 10
  pub within : next ≤ length line

module _ (line : List ℕ) (at stop : ℕ) (z : ℤ) (next : ℕ) where
  plus : (n : Parsed ℕ) → n ≡ number_at line at stop → positive n ≡ Ok (z, next) → ReadZ line at stop z next
  unfolding decimal_ℤ
  plus (Err place) q e = absurd (no_value place z next e)
  plus (Ok (v, m)) q e =
      let w = value_is (pos v) z m next e in
      let r = number_read line at stop v m q in
      subst (λ (y : ℤ). ReadZ line at stop y next) w.0
      (record { here = r.here ∙ ap (λ (y : ℕ). decimal v ++ (stop ∷ drop y line)) w.1; small = r.small; within = omega (arith, r.within, w.1) })

  minus : get_or line at 0 ≡ 45 → (n : Parsed ℕ) → n ≡ number_at line (at + 1) stop → negative (get_or line (at + 1) 0) (at + 1) n ≡ Ok (z, next) → ReadZ line at stop z next
  unfolding decimal_ℤ
  minus h (Err place) q e = absurd (no_value _ z next e)
  minus h (Ok (zero, m)) q e = absurd (no_value (at + 1) z next e)
  minus h (Ok (suc v, m)) q e =
      let t : eqb (suc v) 0 ≡ false = ne_eqb (suc v) 0 (λ x. omega arith) in
      let w = value_is (negsuc v) z m next (rw t at e) in
      let r = number_read line (at + 1) stop (suc v) m q in
      let l : at < length line = omega (arith, r.within, r.after) in
      subst (λ (y : ℤ). ReadZ line at stop y next) w.0
      (record {
        here = drop-cons line at 0 l ∙ ap₂ (λ (x : ℕ) (y : List ℕ). x ∷ y) h (ap (λ (k : ℕ). drop k line) (sym (add-one at)) ∙ r.here ∙ ap (λ (y : ℕ). decimal (suc v) ++ (stop ∷ drop y line)) w.1);
        small = r.small;
        within = omega (arith, r.within, w.1);
      })

  pub signed_read : signed_at line at stop ≡ Ok (z, next) → ReadZ line at stop z next
  signed_read e = go (eqb (get_or line at 0) 45) refl
    where
      go : (t : Bool) → eqb (get_or line at 0) 45 ≡ t → ReadZ line at stop z next
      go true h = minus (eqb-true _ _ h) (number_at line (at + 1) stop) refl (signed_minus line at stop h ∙ e)
      go false h = plus (number_at line at stop) refl (signed_plus line at stop h ∙ e)

pub first_digit : (s r : List ℕ) → digits s ≡ s → 0 < length s → eqb (get_or (s ++ r) 0 0) 45 ≡ false
first_digit [] r e h = absurd (zero_one (omega arith))
first_digit (b ∷ s) r e h = ne_eqb b 45 (λ q. omega (arith, digit_range b (digits_cons b s e).0))

-- the first byte at a place
pub first_at : (line : List ℕ) (at : ℕ) (s : List ℕ) → drop at line ≡ s → get_or line at 0 ≡ get_or s 0 0
first_at line at s e = ap (λ (k : ℕ). get_or line k 0) (sym (add-zero at)) ∙ sym (get_or-drop at line 0 0) ∙ ap (λ (s : List ℕ). get_or s 0 0) e

pub signed_written : (line : List ℕ) (at stop : ℕ) (z : ℤ) (r : List ℕ) → drop at line ≡ decimal_ℤ z ++ (stop ∷ r) → nat_abs z < 10 ^ 10 → is_digit stop ≡ false
    → signed_at line at stop ≡ Ok (z, at + length (decimal_ℤ z) + 1)
unfolding decimal_ℤ
signed_written line at stop (pos n) r here h e =
    let f : get_or line at 0 ≡ get_or (decimal n ++ (stop ∷ r)) 0 0 = first_at line at _ here in
    let g : eqb (get_or line at 0) 45 ≡ false = rw f (first_digit (decimal n) (stop ∷ r) (decimal_digits n) (decimal_some n)) in
    sym (signed_plus line at stop g) ∙ ap positive (number_written line at stop n r here h e)
signed_written line at stop (negsuc n) r here h e =
    let f : get_or line at 0 ≡ 45 = first_at line at _ here in
    let t : drop (at + 1) line ≡ decimal (suc n) ++ (stop ∷ r) = sym (drop-drop 1 at line) ∙ ap (drop 1) here in
    let m : at + 1 + length (decimal (suc n)) + 1 ≡ at + suc (length (decimal (suc n))) + 1 = omega arith in
    let u : eqb (suc n) 0 ≡ false = ne_eqb (suc n) 0 (λ x. omega arith) in
    sym (signed_minus line at stop (eq-eqb _ _ f)) ∙ ap (negative (get_or line (at + 1) 0) (at + 1)) (number_written line (at + 1) stop (suc n) r t h e) ∙ rw u (ap (λ (next : ℕ). Ok (negsuc n, next)) m)

pub signed_rest : (line : List ℕ) (at stop : ℕ) (z : ℤ) (r : List ℕ) → drop at line ≡ decimal_ℤ z ++ (stop ∷ r) → drop (at + length (decimal_ℤ z) + 1) line ≡ r
signed_rest line at stop z r here = rw (add_assoc at (length (decimal_ℤ z)) 1, ← drop-drop (length (decimal_ℤ z) + 1) at line, here) (drop-append-add (decimal_ℤ z) (stop ∷ r) 1)
