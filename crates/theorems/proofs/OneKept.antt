-- 01, "Row states": of rows whose factors differ by one and the same number exactly one is kept, unless their spread is under 5000, and its RAM is the lowest of theirs. No contract cites this file.
-- The order of state 2, by RAM and then by index, is strict and total; the lowest of such rows is the one kept.
use mathlib.Core.Path.{◌≡◌, refl, sym, ap, subst, ◌∙◌}
use mathlib.Core.Bool.{Bool, true, false, cond, ◌&&◌, ◌||◌}
use mathlib.Core.List.{List}
use mathlib.Core.Logic.{◌⊎◌, inl, inr, ⊎_elim}
use Prim.Native.Nat.{ℕ, zero, suc, ◌<◌}
use native.Mathlib.Nat.{not-suc-le-zero}
use native.Mathlib.Omega.{arith}
use borrow.Author.Count.{below_more}
use borrow.Author.Tests.{ltb-true, ltb-false, lt-ltb}
use lib.Dec.{ltb}
use lib.IntN.{ℤ, pos}
use lib.ListN.{length}
use lib.Signed.{lt_z, ◌≤ℤ◌, ◌<ℤ◌}
use Rattle.numbers.specs.Ints.{same_ℤ}
use Rattle.numbers.specs.Below.{some_below}
use Rattle.numbers.proofs.IntLaws.{diff, diffs, zarith, lt_z_true, lt_z_false, lt_lt_z, same_true, same_self}
use Rattle.numbers.proofs.TestLaws.{true_false, some_false, false_some}
use Rattle.types.specs.declared.Header.{Header}
use Rattle.types.specs.Ranges.{at_ℤ}
use Rattle.tablerules.specs.Table.{stretch}
use Rattle.marginrules.specs.Magnitudes.{TableFactorsInRange}
use Rattle.marginrules.proofs.JudgedLaws.{stretch_long}
use Rattle.staterules.specs.States.{spread_of, spread_least, shifted, below, state_of}
use Rattle.theorems.proofs.ShiftLaws.{shifted_self, shifted_back, shifted_on, shifted_spread}

-- ---- the order: RAM, then index
abbrev Lower : (rams : List ℤ) → (j i : ℕ) → Type 0
Lower rams j i = (at_ℤ rams j <ℤ at_ℤ rams i) ⊎ ((at_ℤ rams j ≡ at_ℤ rams i) × (j < i))

lt_trans : {x y z : ℤ} → x <ℤ y → y <ℤ z → x <ℤ z
lt_trans {x} {y} {z} h k =
    let h' = simp diffs at (rw (diff x, diff y) at h) in
    let k' = simp diffs at (rw (diff y, diff z) at k) in
    rw (diff x, diff z) (simp diffs (omega (zarith, h', k')))

lt_self : {x : ℤ} → x <ℤ x → ⊥
lt_self {x} h = let h' = simp diffs at (rw (diff x) at h) in omega (zarith, h')

le_both : {x y : ℤ} → x ≤ℤ y → y ≤ℤ x → x ≡ y
le_both {x} {y} h k =
    let h' = simp diffs at (rw (diff x, diff y) at h) in
    let k' = simp diffs at (rw (diff y, diff x) at k) in
    rw (diff x, diff y) (simp diffs (omega (zarith, h', k')))

module _ (rams : List ℤ) where
  below-yes : (j i : ℕ) → below rams j i ≡ true → Lower rams j i
  unfolding below
  below-yes j i = go (lt_z (at_ℤ rams j) (at_ℤ rams i)) refl (same_ℤ (at_ℤ rams j) (at_ℤ rams i)) refl
    where
      go : (t : Bool) → lt_z (at_ℤ rams j) (at_ℤ rams i) ≡ t → (s : Bool) → same_ℤ (at_ℤ rams j) (at_ℤ rams i) ≡ s → (t || (s && ltb j i)) ≡ true → Lower rams j i
      go true e s u q = inl (lt_z_true e)
      go false e true u q = inr (same_true _ _ u, ltb-true j i q)
      go false e false u q = true_false refl (sym q)

  lower-below : (j i : ℕ) → Lower rams j i → below rams j i ≡ true
  unfolding below
  lower-below j i (inl h) = rw (lt_lt_z h)
  lower-below j i (inr h) = go (lt_z (at_ℤ rams j) (at_ℤ rams i)) (ap (λ (x : ℤ). same_ℤ x (at_ℤ rams i)) h.0 ∙ same_self (at_ℤ rams i)) (lt-ltb j i h.1)
    where
      go : (t : Bool) {s l : Bool} → s ≡ true → l ≡ true → (t || (s && l)) ≡ true
      go true u v = refl
      go false u v = rw (u, v)

  lower-trans : {a b c : ℕ} → Lower rams a b → Lower rams b c → Lower rams a c
  lower-trans (inl h) (inl k) = inl (lt_trans h k)
  lower-trans {a} {b} {c} (inl h) (inr k) = inl (subst (λ (x : ℤ). at_ℤ rams a <ℤ x) k.0 h)
  lower-trans {a} {b} {c} (inr h) (inl k) = inl (subst (λ (x : ℤ). x <ℤ at_ℤ rams c) (sym h.0) k)
  lower-trans (inr h) (inr k) = inr (h.0 ∙ k.0, omega arith)

  lower-self : (a : ℕ) → Lower rams a a → ⊥
  lower-self a (inl h) = lt_self h
  lower-self a (inr h) = omega arith

  not_lower : (j i : ℕ) → below rams j i ≡ false → at_ℤ rams i ≤ℤ at_ℤ rams j
  not_lower j i e = go (lt_z (at_ℤ rams j) (at_ℤ rams i)) refl
    where
      go : (t : Bool) → lt_z (at_ℤ rams j) (at_ℤ rams i) ≡ t → at_ℤ rams i ≤ℤ at_ℤ rams j
      go true u = true_false (lower-below j i (inl (lt_z_true u))) e
      go false u = lt_z_false u

  -- of two rows one is below the other, or they are one row
  lower-total : (a b : ℕ) → below rams a b ≡ false → below rams b a ≡ false → a ≡ b
  lower-total a b p q = indices (le_both (not_lower b a q) (not_lower a b p))
    where
      indices : at_ℤ rams a ≡ at_ℤ rams b → a ≡ b
      indices e = go (ltb a b) refl (ltb b a) refl
        where
          go : (t : Bool) → ltb a b ≡ t → (u : Bool) → ltb b a ≡ u → a ≡ b
          go true v u w = true_false (lower-below a b (inr (e, ltb-true a b v))) p
          go false v true w = true_false (lower-below b a (inr (sym e, ltb-true b a w))) q
          go false v false w = omega (arith, ltb-false a b v, ltb-false b a w)

  -- ---- the lowest of the rows below n that a test holds of
  module _ (member : ℕ → Bool) where
    record First (n : ℕ) : Type 0 where
      row : ℕ
      in_range_lem : row < n
      is_member : member row ≡ true
      lowest : (k : ℕ) → k < n → member k ≡ true → below rams k row ≡ false

    not_below : (j i : ℕ) → (below rams j i ≡ true → ⊥) → below rams j i ≡ false
    not_below j i = go (below rams j i)
      where
        go : (t : Bool) → (t ≡ true → ⊥) → t ≡ false
        go true h = absurd (h refl)
        go false h = refl

    search-first : (n : ℕ) → First n ⊎ ((k : ℕ) → k < n → member k ≡ false)
    search-first zero = inr (λ k h. absurd (not-suc-le-zero h))
    search-first (suc n) = go (member n) refl (search-first n)
      where
        more : (P : ℕ → Type 0) → ((k : ℕ) → k < n → P k) → P n → (k : ℕ) → k < suc n → P k
        more P all here k h = below_more P n all here k (omega arith)

        with-n : member n ≡ true → (r : First n) → (t : Bool) → below rams n r.row ≡ t → First (suc n)
        with-n e r true q =
            record {
              row = n;
              in_range_lem = omega arith;
              is_member = e;
              lowest = more (λ k. member k ≡ true → below rams k n ≡ false)
                  (λ k h m. not_below k n (λ u. true_false (lower-below k r.row (lower-trans (below-yes k n u) (below-yes n r.row q))) (r.lowest k h m)))
                  (λ m. not_below n n (λ u. lower-self n (below-yes n n u)));
            }
        with-n e r false q =
            record {
              row = r.row;
              in_range_lem = omega (arith, r.in_range_lem);
              is_member = r.is_member;
              lowest = more (λ k. member k ≡ true → below rams k r.row ≡ false) r.lowest (λ m. q);
            }

        go : (t : Bool) → member n ≡ t → First n ⊎ ((k : ℕ) → k < n → member k ≡ false) → First (suc n) ⊎ ((k : ℕ) → k < suc n → member k ≡ false)
        go true e (inl r) = inl (with-n e r (below rams n r.row) refl)
        go true e (inr h) =
            inl (record {
              row = n;
              in_range_lem = omega arith;
              is_member = e;
              lowest = more (λ k. member k ≡ true → below rams k n ≡ false) (λ k l m. true_false m (h k l)) (λ m. not_below n n (λ u. lower-self n (below-yes n n u)));
            })
        go false e (inl r) =
            inl (record {
              row = r.row;
              in_range_lem = omega (arith, r.in_range_lem);
              is_member = r.is_member;
              lowest = more (λ k. member k ≡ true → below rams k r.row ≡ false) r.lowest (λ m. true_false m e);
            })
        go false e (inr h) = inr (more (λ k. member k ≡ false) h e)

    first : (n i : ℕ) → i < n → member i ≡ true → First n
    first n i h e = ⊎_elim (λ r. r) (λ none. true_false e (none i h)) (search-first n)

-- ---- states
module _ (h : Header) (f rams : List ℤ) (i : ℕ) where
  abbrev small : Bool
  small = lt_z (spread_of (stretch h.zones f i)) (pos spread_least)

  abbrev stood : (j : ℕ) → Bool
  stood j = below rams j i && shifted (stretch h.zones f j) (stretch h.zones f i)

  not-1 : (state_of h f rams i ≡ 1 → ⊥) → small ≡ false
  unfolding state_of
  not-1 = go small (some_below h.rows stood)
    where
      go : (a b : Bool) → (◌≡◌ {A = ℕ} (cond a 1 (cond b 2 0)) 1 → ⊥) → a ≡ false
      go true b h = absurd (h refl)
      go false b h = refl

  is-0 : small ≡ false → some_below h.rows stood ≡ false → state_of h f rams i ≡ 0
  unfolding state_of
  is-0 e q = rw (e, q)

  from_0 : state_of h f rams i ≡ 0 → some_below h.rows stood ≡ false
  unfolding state_of
  from_0 = go small (some_below h.rows stood)
    where
      go : (a b : Bool) → ◌≡◌ {A = ℕ} (cond a 1 (cond b 2 0)) 0 → b ≡ false
      go true b e = absurd (omega arith)
      go false true e = absurd (omega arith)
      go false false e = refl

pub record OneKept (h : Header) (f rams : List ℤ) (i : ℕ) : Type 0 where
  pub kept : ℕ
  pub in_range_lem : kept < h.rows
  pub alike : shifted (stretch h.zones f kept) (stretch h.zones f i) ≡ true
  pub is_kept : state_of h f rams kept ≡ 0
  pub only : (j : ℕ) → j < h.rows → shifted (stretch h.zones f j) (stretch h.zones f i) ≡ true → state_of h f rams j ≡ 0 → j ≡ kept
  pub lowest : (j : ℕ) → j < h.rows → shifted (stretch h.zones f j) (stretch h.zones f i) ≡ true → at_ℤ rams kept ≤ℤ at_ℤ rams j

both_false : (a b : Bool) → (a ≡ true → b ≡ true → ⊥) → (a && b) ≡ false
both_false true true h = absurd (h refl refl)
both_false true false h = refl
both_false false b h = refl

first_false : (a b : Bool) → (a && b) ≡ false → b ≡ true → a ≡ false
first_false true b e q = true_false q e
first_false false b e q = refl

module _ {h : Header} {f : List ℤ} (bound : TableFactorsInRange h f) (rams : List ℤ) where
  abbrev row : (j : ℕ) → List ℤ
  row j = stretch h.zones f j

  long : (j : ℕ) → j < h.rows → length (row j) ≡ h.zones
  long j l = stretch_long bound j l

  same-long : (j i : ℕ) → j < h.rows → i < h.rows → length (row i) ≡ length (row j)
  same-long j i l k = long i k ∙ sym (long j l)

  -- of two alike rows that are both kept neither is below the other
  one-row : (j k : ℕ) → j < h.rows → k < h.rows → shifted (row j) (row k) ≡ true → state_of h f rams j ≡ 0 → state_of h f rams k ≡ 0 → j ≡ k
  one-row j k hj hk e pj pk =
      lower-total rams j k
      (first_false _ _ (some_false _ (stood h f rams k) (from_0 h f rams k pk) j hj) e)
      (first_false _ _ (some_false _ (stood h f rams j) (from_0 h f rams j pj) k hk) (shifted_back (row j) (row k) (same-long j k hj hk) e))

  pub one_kept : (i : ℕ) → i < h.rows → (state_of h f rams i ≡ 1 → ⊥) → OneKept h f rams i
  one_kept i in-i not-small =
      let r = first rams (λ j. shifted (row j) (row i)) h.rows i in-i (shifted_self (row i)) in
      let m = r.row in
      let same : spread_of (row m) ≡ spread_of (row i) = shifted_spread (row m) (row i) (same-long m i r.in_range_lem in-i) r.is_member in
      let wide : small h f rams m ≡ false = ap (λ (z : ℤ). lt_z z (pos spread_least)) same ∙ not-1 h f rams i not-small in
      let lowest : some_below h.rows (stood h f rams m) ≡ false =
      false_some h.rows (stood h f rams m)
      (λ k l. both_false (below rams k m) (shifted (row k) (row m))
      (λ u v. true_false u (r.lowest k l (shifted_on (row k) (row m) (row i) (same-long k m l r.in_range_lem) v r.is_member)))) in
      let zero-state : state_of h f rams m ≡ 0 = is-0 h f rams m wide lowest in
      record {
        kept = m;
        in_range_lem = r.in_range_lem;
        alike = r.is_member;
        is_kept = zero-state;
        only = λ j l e p.
            one-row j m l r.in_range_lem
            (shifted_on (row j) (row i) (row m) (same-long j i l in-i) e (shifted_back (row m) (row i) (same-long m i r.in_range_lem in-i) r.is_member))
            p zero-state;
        lowest = λ j l e. not_lower rams j m (r.lowest j l e);
      }
