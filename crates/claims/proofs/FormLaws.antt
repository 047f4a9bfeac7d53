-- The laws of the tests of form (claimrules: `specs/Claims.antt`), and of values lent among others (`specs/Magnitudes.antt`). No contract cites this file.
use mathlib.Core.Path.{◌≡◌, refl, sym, ap, ap₂, ◌∙◌}
use mathlib.Core.Bool.{Bool, true, false, not}
use mathlib.Core.List.{List}
use Prim.Native.Nat.{ℕ, ◌+◌, ◌*◌, ◌<◌, ◌≤◌}
use native.Mathlib.Nat.{le_refl, mul-le-mul, mul-le-mul_right, suc-mul}
use native.Mathlib.Numerals.{add-one}
use native.Mathlib.Omega.{arith}
use borrow.Author.Tests.{not-true, lt-ltb, le-ltb}
use lib.Dec.{T, eqb, ltb}
use lib.IntN.{ℤ, pos, nat_abs, ◌+ℤ◌, ◌-ℤ◌, ◌*ℤ◌}
use lib.ListN.{length}
use lib.Signed.{lt_z, le_z, le_z_yes, clash_ℤ, ◌≤ℤ◌}
use Rattle.numbers.specs.Ints.{Within, inside, sum_ℤ}
use Rattle.numbers.specs.Below.{at, all_below}
use Rattle.numbers.proofs.BelowLaws.{sum_ℤ_cong}
use Rattle.numbers.proofs.TestLaws.{and_both, all_true_lem}
use Rattle.numbers.proofs.IntLaws.{diff, diffs, zarith, lt_z_true, lt_z_false, within_le, within_mul, within_sum, inside_pos, between_within}
use Rattle.marginrules.proofs.MagnitudeLaws.{within_sub}
use Rattle.types.specs.Ranges.{at_ℤ, exists}
use Rattle.types.proofs.RangeLaws.{exists_test, exists_in}
use Rattle.tablerules.proofs.GoodLaws.{stretch_at}
use Rattle.staterules.specs.States.{kept}
use Rattle.claimrules.specs.Claims.{times_most, pairs_most, claimed_row, denominator, pairs, cited_row, multiplier, kept_row, cited_before, pair_good, formed_by, cited_sum, own_sum, excess, factor_at}
use Rattle.claims.specs.Magnitudes.{ClaimInRange, Lent, value_of, value_most}

-- ---- kept_row

module _ (states : List ℕ) (row : ℤ) where
  pub kept_negative : lt_z row (pos 0) ≡ true → false ≡ kept_row states row
  unfolding kept_row exists
  kept_negative e = rw e

  module _ (e : lt_z row (pos 0) ≡ false) where
    there : ltb (nat_abs row) (length states) ≡ exists (length states) row
    there = exists_test (length states) row (ap not e)

    pub kept_here : nat_abs row < length states → eqb (at states (nat_abs row)) 0 ≡ kept_row states row
    unfolding kept_row kept
    kept_here h = rw (sym there ∙ lt-ltb (nat_abs row) (length states) h)

    pub kept_beyond : length states ≤ nat_abs row → false ≡ kept_row states row
    unfolding kept_row
    kept_beyond h = rw (sym there ∙ le-ltb (nat_abs row) (length states) h)

pub kept_exists : (states : List ℕ) (row : ℤ) → kept_row states row ≡ true → exists (length states) row ≡ true
unfolding kept_row
kept_exists states row e = (and_both (exists (length states) row) (kept states (nat_abs row)) e).0

-- ---- a well-formed claim
pub record PairFormed (states : List ℕ) (named : ℤ → Bool) (claim : List ℤ) (j : ℕ) : Type 0 where
  pub row : kept_row states (cited_row claim j) ≡ true
  pub free : named (cited_row claim j) ≡ false
  pub times : inside (pos 1) (pos times_most) (multiplier claim j) ≡ true

pub record ClaimFormed (states : List ℕ) (named : ℤ → Bool) (claim : List ℤ) : Type 0 where
  pub row : kept_row states (claimed_row claim) ≡ true
  pub times : inside (pos 1) (pos times_most) (denominator claim) ≡ true
  pub few : inside (pos 0) (pos pairs_most) (pairs claim) ≡ true
  pub cited : (j : ℕ) → j < nat_abs (pairs claim) → PairFormed states named claim j

module _ (states : List ℕ) (named : ℤ → Bool) where
  pair-formed : (claim : List ℤ) (j : ℕ) → pair_good states named claim j ≡ true → PairFormed states named claim j
  unfolding pair_good
  pair-formed claim j e =
      let c = and_both _ (inside (pos 1) (pos times_most) (multiplier claim j)) e in
      let b = and_both _ (not (cited_before claim j)) c.0 in
      let a = and_both (kept_row states (cited_row claim j)) _ b.0 in
      record { row = a.0; free = not-true _ a.1; times = c.1 }

  pub claim_formed : (before : ℤ → Bool) (claim : List ℤ) → formed_by states named before claim ≡ true → ClaimFormed states named claim
  unfolding formed_by
  claim_formed before claim e =
      let d = and_both _ (all_below (nat_abs (pairs claim)) (pair_good states named claim)) e in
      let c = and_both _ (inside (pos 0) (pos pairs_most) (pairs claim)) d.0 in
      let b = and_both _ (inside (pos 1) (pos times_most) (denominator claim)) c.0 in
      let a = and_both (kept_row states (claimed_row claim)) _ b.0 in
      record {
        row = a.0;
        times = b.1;
        few = c.1;
        cited = λ j h. pair-formed claim j (all_true_lem (nat_abs (pairs claim)) (pair_good states named claim) d.1 j h);
      }

  -- a well-formed claim is in range
  pub formed_ranges : {claim : List ℤ} → ClaimFormed states named claim → ClaimInRange (length states) claim
  formed_ranges {claim} c =
      record {
        row_in = kept_exists states (claimed_row claim) c.row;
        times_in = c.times;
        pairs_in_lem = c.few;
        cited_in = λ j h. kept_exists states (cited_row claim j) (c.cited j h).row;
        multiplied_in = λ j h. (c.cited j h).times;
      }

-- ---- a value among `stride` of each row

pub place_lt : (rows stride at i : ℕ) → i < rows → at < stride → i * stride + at < rows * stride
place_lt rows stride at i h l = omega (arith, mul-le-mul_right stride h, suc-mul i stride)

module _ {rows stride at : ℕ} {xs : List ℤ} (lent : Lent rows stride at xs) (row : ℤ) (there : exists rows row ≡ true) where
  pub value_place : nat_abs row * stride + at < length xs
  value_place = omega (arith, place_lt rows stride at (nat_abs row) (exists_in rows row there).1 lent.within, lent.long)

  pub value_in : Within value_most (value_of xs stride at (nat_abs row))
  value_in = lent.each.at (nat_abs row * stride + at) value_place

-- ---- a claim in range

abbrev pub terms : (claim xs : List ℤ) → (stride at : ℕ) → (j : ℕ) → ℤ
terms claim xs stride at j = multiplier claim j *ℤ value_of xs stride at (nat_abs (cited_row claim j))

-- a sum that a loop makes term by term
pub sum_next : (f : ℕ → ℤ) (j : ℕ) {s v : ℤ} → s ≡ sum_ℤ j f → v ≡ f j → s +ℤ v ≡ sum_ℤ (j + 1) f
unfolding sum_ℤ
sum_next f j e d = rw (add-one j) (ap₂ (λ (x y : ℤ). x +ℤ y) e d)

module _ {rows : ℕ} {claim : List ℤ} (bound : ClaimInRange rows claim) where
  pub few_pairs : nat_abs (pairs claim) ≤ pairs_most
  few_pairs = (inside_pos 0 pairs_most (pairs claim) bound.pairs_in_lem).most

  pub denominator_in : Within times_most (denominator claim)
  denominator_in = between_within (inside_pos 1 times_most (denominator claim) bound.times_in)

  module _ (j : ℕ) (h : j < nat_abs (pairs claim)) where
    pub multiplier_in : Within times_most (multiplier claim j)
    multiplier_in = between_within (inside_pos 1 times_most (multiplier claim j) (bound.multiplied_in j h))

    -- one multiplied value, and the sum of the first j
    module _ {stride at : ℕ} {xs : List ℤ} (lent : Lent rows stride at xs) where
      pub term_in : Within (times_most * value_most) (multiplier claim j *ℤ value_of xs stride at (nat_abs (cited_row claim j)))
      term_in = within_mul multiplier_in (value_in lent (cited_row claim j) (bound.cited_in j h))

  module _ {stride at : ℕ} {xs : List ℤ} (lent : Lent rows stride at xs) where
    pub sum_in : (n : ℕ) → n ≤ nat_abs (pairs claim) → Within (pairs_most * (times_most * value_most)) (sum_ℤ n (terms claim xs stride at))
    sum_in n h =
        within_le (within_sum n (terms claim xs stride at) (λ j l. term_in j (omega arith) lent))
        (mul-le-mul {n₁ = n} {n₂ = pairs_most} (omega (arith, few_pairs)) (le_refl (times_most * value_most)))

    pub own_in : Within (times_most * value_most) (own_sum claim (value_of xs stride at))
    unfolding own_sum
    own_in = within_mul denominator_in (value_in lent (claimed_row claim) bound.row_in)

    pub excess_in : Within (pairs_most * (times_most * value_most) + times_most * value_most) (cited_sum claim (value_of xs stride at) -ℤ own_sum claim (value_of xs stride at))
    unfolding cited_sum
    excess_in = within_sub (sum_in (nat_abs (pairs claim)) (le_refl (nat_abs (pairs claim)))) own_in

-- ---- a row's factor at zone z, among all factors

pub lent_at : {rows stride at : ℕ} {xs : List ℤ} → Lent rows stride at xs → (z : ℕ) → z < stride → Lent rows stride z xs
lent_at lent z h = record { long = lent.long; within = h; each = lent.each }

module _ {rows zones z : ℕ} {f : List ℤ} (lent : Lent rows zones z f) (claim : List ℤ) where
  factor-value : (row : ℤ) → value_of f zones z (nat_abs row) ≡ factor_at zones f z (nat_abs row)
  factor-value row = sym (stretch_at zones f (nat_abs row) z lent.within)

  pub excess_factor : excess claim (value_of f zones z) ≡ excess claim (factor_at zones f z)
  unfolding excess cited_sum own_sum
  excess_factor =
      ap₂ (λ (x y : ℤ). x -ℤ y)
      (sum_ℤ_cong (nat_abs (pairs claim)) _ _ (λ j h. ap (λ (x : ℤ). multiplier claim j *ℤ x) (factor-value (cited_row claim j))))
      (ap (λ (x : ℤ). denominator claim *ℤ x) (factor-value (claimed_row claim)))

-- ---- one value for each row

module _ (claim xs : List ℤ) where
  single : (i : ℕ) → value_of xs 1 0 i ≡ at_ℤ xs i
  single i = ap (at_ℤ xs) (omega arith)

  single-cited : cited_sum claim (value_of xs 1 0) ≡ cited_sum claim (at_ℤ xs)
  unfolding cited_sum
  single-cited = sum_ℤ_cong (nat_abs (pairs claim)) _ _ (λ j h. ap (λ (x : ℤ). multiplier claim j *ℤ x) (single (nat_abs (cited_row claim j))))

  single-own : own_sum claim (value_of xs 1 0) ≡ own_sum claim (at_ℤ xs)
  unfolding own_sum
  single-own = ap (λ (x : ℤ). denominator claim *ℤ x) (single (nat_abs (claimed_row claim)))

  -- the sum is at most the claimed row's share
  pub single_test : le_z (excess claim (value_of xs 1 0)) (pos 0) ≡ not (lt_z (own_sum claim (at_ℤ xs)) (cited_sum claim (at_ℤ xs)))
  unfolding excess
  single_test = ap₂ (λ (x y : ℤ). le_z (x -ℤ y) (pos 0)) single-cited single-own ∙ at_most (cited_sum claim (at_ℤ xs)) (own_sum claim (at_ℤ xs))
    where
      down : (x y : ℤ) → x ≤ℤ y → (x -ℤ y) ≤ℤ pos 0
      down x y h = let h' = simp diffs at (rw (diff x, diff y) at h) in rw (diff x, diff y) (simp diffs (omega (zarith, h')))

      back : (x y : ℤ) → (x -ℤ y) ≤ℤ pos 0 → x ≤ℤ y
      back x y h = let h' = simp diffs at (rw (diff x, diff y) at h) in rw (diff x, diff y) (simp diffs (omega (zarith, h')))

      yes : (v : Bool) → T v → v ≡ true
      yes true h = refl
      yes false h = absurd h

      no : (v : Bool) → (T v → ⊥) → v ≡ false
      no true h = absurd (h tt)
      no false h = refl

      at_most : (x y : ℤ) → le_z (x -ℤ y) (pos 0) ≡ not (lt_z y x)
      at_most x y = go (lt_z y x) refl
        where
          go : (v : Bool) → lt_z y x ≡ v → le_z (x -ℤ y) (pos 0) ≡ not v
          go true e = no _ (λ h. clash_ℤ (lt_z_true e) (back x y (le_z_yes h)))
          go false e = yes _ (down x y (lt_z_false e)).le
