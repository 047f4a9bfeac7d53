-- The laws of `specs/Fields.antt`'s `number_at` that its reader cites. No contract cites this file.
-- In order: `digits` from a place on; `plain` and `first_bad`; when no digit may follow; `Upto`, what a reader has after some digits, and what it answers.
use Prim.Native.Nat.{ℕ, suc, ◌+◌, ◌*◌, ◌-◌, ◌^◌, ◌≤◌, ◌<◌, min}
use mathlib.Core.Path.{◌≡◌, refl, sym, ap, ap₂, ◌∙◌}
use mathlib.Core.Bool.{Bool, true, false, ◌&&◌, ◌||◌, and-false}
use mathlib.Core.Logic.{◌⊎◌, inl, inr, ⊎_elim}
use mathlib.Core.List.{List, [], ◌∷◌}
use native.Mathlib.Nat.{sub_self, pow-le-pow_right, lt_of_lt_of_le}
use native.Mathlib.Numerals.{add-one}
use native.Mathlib.Omega.{arith}
use lib.Dec.{leb, ltb, eqb, lit<}
use lib.ListN.{length, get_or, drop, drop_of_length-le, length-drop}
use lib.Seq.{drop-cons, get_or-drop}
use borrow.Author.Tests.{leb-true, leb-false, ltb-true, eqb-true, eqb-false, lt-leb, lt-ltb, le-ltb, eq-eqb, ne_eqb}
use Rattle.numbers.proofs.BelowLaws.{le_or_lt}
use Rattle.numbers.proofs.TestLaws.{or_neither}
use Rattle.text.specs.Fields.{is_digit, digits, value, plain, first_bad, number_at}
use Rattle.text.proofs.NumberTrip.{and_both, digit_range, more_digits, plain_true}
use Rattle.std.specs.Prelude.{Ok, Err}

-- ---- digits
module _ (line : List ℕ) (i : ℕ) where
  pub digits_more : i < length line → is_digit (get_or line i 0) ≡ true → digits (drop i line) ≡ get_or line i 0 ∷ digits (drop (i + 1) line)
  digits_more h e = rw (add-one, drop-cons line i 0 h, e)

  pub digits_none : i < length line → is_digit (get_or line i 0) ≡ false → digits (drop i line) ≡ []
  digits_none h e = rw (drop-cons line i 0 h, e)

  pub digits_end : length line ≤ i → digits (drop i line) ≡ []
  digits_end h = rw (drop_of_length-le line h)

-- ---- plain, first_bad
module _ (ds : List ℕ) where
  pub plain_none : length ds ≤ 0 → plain ds ≡ false
  plain_none h = rw (le-ltb 0 (length ds) h)

  pub plain_long : 10 < length ds → plain ds ≡ false
  plain_long h =
      let p : 0 < length ds = omega arith in
      rw (lt-ltb 0 (length ds) p, lt-leb (length ds) 10 h)

  pub plain_zero : 1 < length ds → get_or ds 0 0 ≡ 48 → plain ds ≡ false
  plain_zero h e =
      let p : 0 < length ds = omega arith in
      rw (lt-ltb 0 (length ds) p, lt-leb (length ds) 1 h, e) (and-false (leb (length ds) 10))

  bad-zero : (at : ℕ) → 1 < length ds → get_or ds 0 0 ≡ 48 → first_bad ds at ≡ at + 1
  bad-zero at h e = rw (lt-ltb 1 (length ds) h, e)

  bad-other : (at : ℕ) → (length ds ≤ 1) ⊎ (get_or ds 0 0 ≡ 48 → ⊥) → first_bad ds at ≡ at + min (length ds) 10
  bad-other at o =
      ⊎_elim
      (λ (h : length ds ≤ 1). rw (le-ltb 1 (length ds) h))
      (λ (n : get_or ds 0 0 ≡ 48 → ⊥). rw (ne_eqb (get_or ds 0 0) 48 n, and-false (ltb 1 (length ds))))
      o

-- ---- number_at, by what stands after the digits
module _ (line : List ℕ) (at stop : ℕ) where
  number-not : (i : ℕ) → plain (digits (drop at line)) ≡ false → first_bad (digits (drop at line)) at ≡ i → Err i ≡ number_at line at stop
  unfolding number_at
  number-not i e f = rw e (ap Err (sym f))

  number_cut : length line ≤ at + length (digits (drop at line)) → Err (first_bad (digits (drop at line)) at) ≡ number_at line at stop
  unfolding number_at
  number_cut h =
      let k : length (drop at line) ≤ length (digits (drop at line)) = simp length-drop (omega arith) in
      rw (le-ltb (length (digits (drop at line))) (length (drop at line)) k, and-false (plain (digits (drop at line))))

  module _ (p : plain (digits (drop at line)) ≡ true) (h : at + length (digits (drop at line)) < length line) where
    within : length (digits (drop at line)) < length (drop at line)
    within = simp length-drop (omega arith)

    number-other : (get_or line (at + length (digits (drop at line))) 0 ≡ stop → ⊥) → Err (first_bad (digits (drop at line)) at) ≡ number_at line at stop
    unfolding number_at
    number-other e = rw (p, lt-ltb _ _ within, get_or-drop at line (length (digits (drop at line))) 0, ne_eqb _ _ e)

    number-good : get_or line (at + length (digits (drop at line))) 0 ≡ stop → Ok (value 0 (digits (drop at line)), at + length (digits (drop at line)) + 1) ≡ number_at line at stop
    unfolding number_at
    number-good e = rw (p, lt-ltb _ _ within, get_or-drop at line (length (digits (drop at line))) 0, eq-eqb _ _ e)

-- ---- no digit may follow
full_is : (n v : ℕ) → (leb 10 n || (ltb 0 n && eqb v 0)) ≡ true → (10 ≤ n) ⊎ ((0 < n) × (v ≡ 0))
full_is n v e = go (leb 10 n) refl e
  where
    go : (t : Bool) → leb 10 n ≡ t → (t || (ltb 0 n && eqb v 0)) ≡ true → (10 ≤ n) ⊎ ((0 < n) × (v ≡ 0))
    go true q e = inl (leb-true 10 n q)
    go false q e = let b = and_both (ltb 0 n) (eqb v 0) e in inr (ltb-true 0 n b.0, eqb-true v 0 b.1)

full_not : (n v : ℕ) → (leb 10 n || (ltb 0 n && eqb v 0)) ≡ false → (n < 10) × ((n ≤ 0) ⊎ (0 < v))
full_not n v e =
    let o = or_neither (leb 10 n) (ltb 0 n && eqb v 0) e in
    (leb-false 10 n o.0, ⊎_elim (λ (h : n ≤ 0). inl h) (λ (h : 0 < n). inr (some h o.1)) (le_or_lt n 0))
  where
    some : 0 < n → (ltb 0 n && eqb v 0) ≡ false → 0 < v
    some h e = let q : v ≡ 0 → ⊥ = eqb-false v 0 (rw (lt-ltb 0 n h) at e) in ⊎_elim (λ (k : v ≤ 0). absurd (q (omega arith))) (λ (k : 0 < v). k) (le_or_lt v 0)

-- ---- what a reader of a number has after it has passed the digits from `at` up to `i`, worth v
pub record Upto (line : List ℕ) (at i v : ℕ) : Type 0 where
  pub low : at ≤ i
  pub high : i ≤ at + 10
  pub small : v < 10 ^ (i - at)
  pub count : length (digits (drop at line)) ≡ (i - at) + length (digits (drop i line))
  pub worth : value 0 (digits (drop at line)) ≡ value v (digits (drop i line))
  pub zero_first : at < i → v ≡ 0 → (get_or (digits (drop at line)) 0 0 ≡ 48) × (i ≤ at + 1)
  pub other_first : at < i → 0 < v → get_or (digits (drop at line)) 0 0 ≡ 48 → ⊥

module _ (line : List ℕ) (at : ℕ) where
  pub upto_none : Upto line at at 0
  upto_none = record {
    low = omega arith;
    high = omega arith;
    small = rw (sub_self at) (lit< tt);
    count = omega arith;
    worth = refl;
    zero_first = λ h e. absurd (omega arith);
    other_first = λ h p e. omega arith;
  }

  module _ (i v : ℕ) (u : Upto line at i v) where
    -- where one digit more may follow, what was read before fits nine digits
    pub upto_small : (leb 10 (i - at) || (ltb 0 (i - at) && eqb v 0)) ≡ false → v < 10 ^ 9
    upto_small q =
        let k : i - at ≤ 9 = omega (arith, (full_not (i - at) v q).0) in
        lt_of_lt_of_le u.small (pow-le-pow_right {n = 10} (lit< tt) k)

    module _ (h : i < length line) (e : is_digit (get_or line i 0) ≡ true) where
      pub upto_more : (d : ℕ) → d ≡ get_or line i 0 - 48 → (leb 10 (i - at) || (ltb 0 (i - at) && eqb v 0)) ≡ false → Upto line at (i + 1) (v * 10 + d)
      upto_more d w q =
          let s = digits_more line i h e in
          let n = full_not (i - at) v q in
          let l : at ≤ i = u.low in
          let k : i + 1 - at ≡ suc (i - at) = omega arith in
          let r = digit_range (get_or line i 0) e in
          let g : d < 10 = omega arith in
          record {
            low = omega arith;
            high = omega (arith, n.0);
            small = rw k (more_digits v d (i - at) u.small g);
            count = omega (arith, u.count, ap length s);
            worth = u.worth ∙ ap (value v) s ∙ ap (λ (x : ℕ). value (v * 10 + x) (digits (drop (i + 1) line))) (sym w);
            zero_first = λ a z.
                let b : i ≡ at = ⊎_elim (λ (x : i - at ≤ 0). omega arith) (λ (x : 0 < v). absurd (omega arith)) n.1 in
                (first b ∙ omega arith, omega arith);
            other_first = λ a p x.
                ⊎_elim
                (λ (b : i ≤ at).
                let y = none_yet b in
                let f : get_or line i 0 ≡ 48 = sym (first (omega arith)) ∙ x in
                omega arith)
                (λ (b : at < i). ⊎_elim (λ (y : i - at ≤ 0). omega arith) (λ (y : 0 < v). u.other_first b y x) n.1)
                (le_or_lt i at);
          }
        where
          first : i ≡ at → get_or (digits (drop at line)) 0 0 ≡ get_or line i 0
          first b = ap (λ (k : ℕ). get_or (digits (drop k line)) 0 0) (sym b) ∙ ap (λ (l : List ℕ). get_or l 0 0) (digits_more line i h e)

          none_yet : i ≤ at → v ≡ 0
          none_yet b = let g : i - at ≡ 0 = omega arith in omega (arith, (rw g at u.small))

      -- a digit that no good number could have
      pub upto_full : (stop : ℕ) → (leb 10 (i - at) || (ltb 0 (i - at) && eqb v 0)) ≡ true → Err i ≡ number_at line at stop
      upto_full stop q =
          let ds = digits (drop at line) in
          let n = ap length (digits_more line i h e) in
          let k = u.count in
          ⊎_elim
          (λ (t : 10 ≤ i - at).
          let p : 0 < v = ⊎_elim (λ (x : v ≤ 0). absurd (omega (arith, u.zero_first (omega arith) (omega arith)))) (λ (x : 0 < v). x) (le_or_lt v 0) in
          let a : at < i = omega arith in
          number-not line at stop i (plain_long ds (omega arith)) (bad-other ds at (inr (u.other_first a p)) ∙ omega (arith, u.high)))
          (λ (z : (0 < i - at) × (v ≡ 0)).
          let f = u.zero_first (omega arith) z.1 in
          let l : 1 < length (digits (drop at line)) = omega arith in
          number-not line at stop i (plain_zero ds l f.0) (bad-zero ds at l f.0 ∙ omega arith))
          (full_is (i - at) v q)

    -- past the last digit
    module _ (none : digits (drop i line) ≡ []) where
      long : length (digits (drop at line)) ≡ i - at
      long = omega (arith, u.count, ap length none)

      pub upto_empty : (stop : ℕ) → i ≤ at → Err i ≡ number_at line at stop
      upto_empty stop h =
          let n = long in
          let l = u.low in
          number-not line at stop i (plain_none (digits (drop at line)) (omega arith)) (bad-other (digits (drop at line)) at (inl (omega arith)) ∙ omega arith)

      module _ (h : at < i) where
        no_lead : (length (digits (drop at line)) ≤ 1) ⊎ (get_or (digits (drop at line)) 0 0 ≡ 48 → ⊥)
        no_lead = ⊎_elim (λ (p : v ≤ 0). inl (omega (arith, long, u.zero_first h (omega arith)))) (λ (p : 0 < v). inr (u.other_first h p)) (le_or_lt v 0)

        good : plain (digits (drop at line)) ≡ true
        good = let n = long in plain_true (digits (drop at line)) (omega arith) (omega (arith, u.high)) no_lead

        bad : first_bad (digits (drop at line)) at ≡ i
        bad = let n = long in bad-other (digits (drop at line)) at no_lead ∙ omega (arith, u.high)

        ended : at + length (digits (drop at line)) ≡ i
        ended = omega (arith, long)

        pub upto_other : (stop : ℕ) → i < length line → (get_or line i 0 ≡ stop → ⊥) → Err i ≡ number_at line at stop
        upto_other stop k e = ap Err (sym bad) ∙ number-other line at stop good (omega (arith, ended)) (λ x. e (ap (λ (j : ℕ). get_or line j 0) (sym ended) ∙ x))

        pub upto_stop : (stop : ℕ) → i < length line → get_or line i 0 ≡ stop → Ok (v, i + 1) ≡ number_at line at stop
        upto_stop stop k e =
            ap₂ (λ (v next : ℕ). Ok (v, next)) (sym (u.worth ∙ ap (value v) none)) (ap (λ (j : ℕ). j + 1) (sym ended))
            ∙ number-good line at stop good (omega (arith, ended)) (ap (λ (j : ℕ). get_or line j 0) ended ∙ e)

      pub upto_cut : (stop : ℕ) → length line ≤ i → Err i ≡ number_at line at stop
      upto_cut stop k =
          ⊎_elim (λ (h : i ≤ at). upto_empty stop h) (λ (h : at < i). ap Err (sym (bad h)) ∙ number_cut line at stop (omega (arith, ended h))) (le_or_lt i at)
