-- The laws of `specs/Named.antt`: flags say of a row that exists what the list says, and a claim judged by them is judged by the list. No contract cites this file.
use Rattle.std.specs.Prelude.{Option}
use mathlib.Core.Path.{◌≡◌, refl, sym, ap, ap₂, ◌∙◌}
use mathlib.Core.Bool.{Bool, true, false, not, cond, ◌&&◌, ◌||◌, false≢true}
use mathlib.Core.List.{List, []}
use mathlib.Core.Logic.{⊎_elim}
use Prim.Native.Nat.{ℕ, ◌+◌, ◌<◌, ◌≤◌}
use native.Mathlib.Omega.{arith}
use borrow.Author.Tests.{lt-ltb, le-ltb, eqb-true, eqb-false}
use lib.Dec.{eqb, ltb}
use lib.IntN.{ℤ, pos, nat_abs}
use lib.ListN.{length, get_or, set, length-set}
use lib.Seq.{get_or-set_same, get_or-set_other}
use lib.Signed.{lt_z}
use Rattle.numbers.specs.Below.{some_below, all_below, given}
use Rattle.numbers.specs.Ints.{same_ℤ, inside}
use Rattle.numbers.proofs.BelowLaws.{lt_suc_cases, first_cong, table_long, table_get, table_cong, table_of}
use Rattle.numbers.proofs.FirstLaws.{some_has}
use Rattle.numbers.proofs.IntLaws.{same_true, same_self}
use Rattle.numbers.proofs.TestLaws.{both_and, some_false, false_some}
use Rattle.limits.specs.Limits.{rows_most}
use Rattle.types.specs.Ranges.{exists}
use Rattle.types.proofs.RangeLaws.{exists_test, exists_in}
use Rattle.claimrules.specs.Claims.{times_most, pairs_most, claimed_row, denominator, pairs, cited_row, multiplier, kept_row, claimed_in, cited_before, pair_good, formed_by, formed}
use Rattle.claims.specs.Named.{named_rows, none_named, flagged, name_row}
use Rattle.claims.proofs.FormLaws.{kept_exists}

pub exists_pos : (rows i : ℕ) → i < rows → exists rows (pos i) ≡ true
unfolding exists
exists_pos rows i h = both_and _ _ (ap not (le-ltb i 0 (omega arith))) (lt-ltb i rows h)

-- ---- flagged
module _ (flags : List Bool) (row : ℤ) where
  pub flagged_negative : lt_z row (pos 0) ≡ true → false ≡ flagged flags row
  unfolding flagged exists
  flagged_negative e = rw e

  module _ (e : lt_z row (pos 0) ≡ false) where
    there : ltb (nat_abs row) (length flags) ≡ exists (length flags) row
    there = exists_test (length flags) row (ap not e)

    pub flagged_here : nat_abs row < length flags → get_or flags (nat_abs row) false ≡ flagged flags row
    unfolding flagged
    flagged_here h = rw (sym there ∙ lt-ltb (nat_abs row) (length flags) h)

    pub flagged_beyond : length flags ≤ nat_abs row → false ≡ flagged flags row
    unfolding flagged
    flagged_beyond h = rw (sym there ∙ le-ltb (nat_abs row) (length flags) h)

-- ---- name_row
module _ (flags : List Bool) (row : ℤ) where
  pub name_negative : lt_z row (pos 0) ≡ true → flags ≡ name_row row flags
  unfolding name_row exists
  name_negative e = rw e

  module _ (e : lt_z row (pos 0) ≡ false) where
    pub name_here : nat_abs row < length flags → set flags (nat_abs row) true ≡ name_row row flags
    unfolding name_row
    name_here h = rw (sym (there flags row e) ∙ lt-ltb (nat_abs row) (length flags) h)

    pub name_beyond : length flags ≤ nat_abs row → flags ≡ name_row row flags
    unfolding name_row
    name_beyond h = rw (sym (there flags row e) ∙ le-ltb (nat_abs row) (length flags) h)

  pub name_long : length (name_row row flags) ≡ length flags
  unfolding name_row
  name_long = go (exists (length flags) row)
    where
      go : (v : Bool) → length (cond v (set flags (nat_abs row) true) flags) ≡ length flags
      go true = length-set flags (nat_abs row) true
      go false = refl

-- ---- a test that holds of some index below n + 1
some_at : (n : ℕ) (test : ℕ → Bool) (k : ℕ) → k < n → test k ≡ true → some_below n test ≡ true
some_at n test k h q = go (some_below n test) refl
  where
    go : (v : Bool) → some_below n test ≡ v → some_below n test ≡ true
    go true e = e
    go false e = absurd (false≢true (sym (some_false n test e k h) ∙ q))

some_last : (n : ℕ) (test : ℕ → Bool) → some_below (n + 1) test ≡ (some_below n test || test n)
some_last n test = go (some_below n test) refl (test n) refl
  where
    go : (v : Bool) → some_below n test ≡ v → (t : Bool) → test n ≡ t → some_below (n + 1) test ≡ (v || t)
    go true e t q = let k = some_has n test e in some_at (n + 1) test k.0 (omega (arith, k.1)) k.2
    go false e true q = some_at (n + 1) test n (omega arith) q
    go false e false q = false_some (n + 1) test (λ k l. ⊎_elim (some_false n test e k) (λ d. ap test d ∙ q) (lt_suc_cases k n (omega arith)))

or-true : (v : Bool) → (v || true) ≡ true
or-true true = refl
or-true false = refl

or_false : (v : Bool) → (v || false) ≡ v
or_false true = refl
or_false false = refl

-- ---- named_rows
pub none_long : length none_named ≡ rows_most
none_long = table_long rows_most (λ i. false)

module _ (claims : List (List ℤ)) where
  pub named_long : (n : ℕ) → length (named_rows claims n) ≡ rows_most
  unfolding named_rows
  named_long n = table_long rows_most (λ i. claimed_in claims n (pos i))

  -- before the first claim
  pub named_none : none_named ≡ named_rows claims 0
  unfolding named_rows claimed_in
  named_none = table_cong rows_most (λ i. false) (λ i. claimed_in claims 0 (pos i)) (λ i h. sym (false_some 0 (λ e. same_ℤ (claimed_row (get_or claims e [])) (pos i)) (λ k l. absurd (none_below k l))))
    where
      none_below : (k : ℕ) → k < 0 → ⊥
      none_below k l = omega arith

  pub named_is : (n i : ℕ) → i < rows_most → get_or (named_rows claims n) i false ≡ claimed_in claims n (pos i)
  unfolding named_rows
  named_is n i h = table_get rows_most (λ i. claimed_in claims n (pos i)) i false h

  named-of : (n : ℕ) (flags : List Bool) → length flags ≡ rows_most → ((i : ℕ) → i < rows_most → get_or flags i false ≡ claimed_in claims n (pos i)) → flags ≡ named_rows claims n
  unfolding named_rows
  named-of n flags long is = table_of rows_most (λ i. claimed_in claims n (pos i)) flags false long is

  -- one claim more
  module _ (n : ℕ) {row : ℤ} (is : row ≡ claimed_row (get_or claims n [])) where
    abbrev flags : List Bool
    flags = named_rows claims n

    one_more_lem : (i : ℕ) {v : Bool} → same_ℤ row (pos i) ≡ v → claimed_in claims (n + 1) (pos i) ≡ (claimed_in claims n (pos i) || v)
    unfolding claimed_in
    one_more_lem i q =
        some_last n (λ e. same_ℤ (claimed_row (get_or claims e [])) (pos i))
        ∙ ap (λ (v : Bool). some_below n (λ e. same_ℤ (claimed_row (get_or claims e [])) (pos i)) || v) (ap (λ (r : ℤ). same_ℤ r (pos i)) (sym is) ∙ q)

    pub name_more : name_row row flags ≡ named_rows claims (n + 1)
    unfolding name_row
    name_more = go (exists (length flags) row) refl
      where
        told : (i : ℕ) → i < rows_most → get_or flags i false ≡ claimed_in claims n (pos i)
        told = named_is n

        -- a row that no table has
        other : exists (length flags) row ≡ false → (i : ℕ) → i < rows_most → same_ℤ row (pos i) ≡ false
        other e i h = sure (same_ℤ row (pos i)) refl
          where
            sure : (v : Bool) → same_ℤ row (pos i) ≡ v → v ≡ false
            sure true q = sym (sym e ∙ ap (exists (length flags)) (same_true row (pos i) q) ∙ exists_pos (length flags) i (omega (arith, named_long n)))
            sure false q = refl

        -- the row's own flag, and those of others
        here : exists (length flags) row ≡ true → (i : ℕ) → i < rows_most → get_or (set flags (nat_abs row) true) i false ≡ claimed_in claims (n + 1) (pos i)
        here e i h = sure (eqb (nat_abs row) i) refl
          where
            in-flags : (row ≡ pos (nat_abs row)) × (nat_abs row < length flags)
            in-flags = exists_in (length flags) row e

            sure : (v : Bool) → eqb (nat_abs row) i ≡ v → get_or (set flags (nat_abs row) true) i false ≡ claimed_in claims (n + 1) (pos i)
            sure true q =
                let d = eqb-true (nat_abs row) i q in
                ap (λ (j : ℕ). get_or (set flags (nat_abs row) true) j false) (sym d)
                ∙ get_or-set_same flags (nat_abs row) true false in-flags.1
                ∙ sym (one_more_lem i (ap (λ (r : ℤ). same_ℤ r (pos i)) (in-flags.0 ∙ ap pos d) ∙ same_self (pos i)) ∙ or-true (claimed_in claims n (pos i)))
            sure false q =
                get_or-set_other flags (nat_abs row) i true false (λ d. eqb-false (nat_abs row) i q (sym d))
                ∙ told i h
                ∙ sym (one_more_lem i (apart (same_ℤ row (pos i)) refl) ∙ or_false (claimed_in claims n (pos i)))
              where
                apart : (v : Bool) → same_ℤ row (pos i) ≡ v → same_ℤ row (pos i) ≡ false
                apart true p = absurd (eqb-false (nat_abs row) i q (ap nat_abs (same_true row (pos i) p)))
                apart false p = p

        go : (v : Bool) → exists (length flags) row ≡ v → cond v (set flags (nat_abs row) true) flags ≡ named_rows claims (n + 1)
        go true e = named-of (n + 1) (set flags (nat_abs row) true) (length-set flags (nat_abs row) true ∙ named_long n) (here e)
        go false e = named-of (n + 1) flags (named_long n) (λ i h. told i h ∙ sym (one_more_lem i (other e i h) ∙ or_false (claimed_in claims n (pos i))))

  -- what a flag says of a row that exists
  pub flagged_named : (n rows : ℕ) → rows ≤ rows_most → (row : ℤ) → exists rows row ≡ true → flagged (named_rows claims n) row ≡ claimed_in claims n row
  unfolding flagged
  flagged_named n rows few row e =
      let r = exists_in rows row e in
      let there : exists (length (named_rows claims n)) row ≡ true =
      ap (exists (length (named_rows claims n))) r.0 ∙ exists_pos (length (named_rows claims n)) (nat_abs row) (omega (arith, r.1, named_long n)) in
      ap (λ (v : Bool). v && get_or (named_rows claims n) (nat_abs row) false) there
      ∙ named_is n (nat_abs row) (omega (arith, r.1))
      ∙ ap (claimed_in claims n) (sym r.0)

-- ---- a claim's form by flags
-- tests that agree on kept rows are the same where a row must be kept
module _ (states : List ℕ) (test test' : ℤ → Bool) (agree : (row : ℤ) → kept_row states row ≡ true → test row ≡ test' row) where
  kept-agree : (row : ℤ) → (kept_row states row && not (test row)) ≡ (kept_row states row && not (test' row))
  kept-agree row = go (kept_row states row) refl
    where
      go : (v : Bool) → kept_row states row ≡ v → (v && not (test row)) ≡ (v && not (test' row))
      go true e = ap not (agree row e)
      go false e = refl

  pair-agree : (claim : List ℤ) (j : ℕ) → pair_good states test claim j ≡ pair_good states test' claim j
  unfolding pair_good
  pair-agree claim j = ap (λ (v : Bool). v && not (cited_before claim j) && inside (pos 1) (pos times_most) (multiplier claim j)) (kept-agree (cited_row claim j))

  pairs-agree : (claim : List ℤ) (n : ℕ) → all_below n (pair_good states test claim) ≡ all_below n (pair_good states test' claim)
  pairs-agree claim n = ap (λ (o : Option ℕ). not (given o)) (first_cong n _ _ (λ j h. ap not (pair-agree claim j)))

module _ (states : List ℕ) (few : length states ≤ rows_most) (claims : List (List ℤ)) where
  flags-agree : (n : ℕ) (row : ℤ) → kept_row states row ≡ true → flagged (named_rows claims n) row ≡ claimed_in claims n row
  flags-agree n row e = flagged_named claims n (length states) few row (kept_exists states row e)

  pub formed_flags : (k : ℕ) {claim : List ℤ} → claim ≡ get_or claims k [] → formed_by states (flagged (named_rows claims (length claims))) (flagged (named_rows claims k)) claim ≡ formed states claims k
  unfolding formed formed_by
  formed_flags k {claim} is =
      ap₂ (λ (v w : Bool). v && inside (pos 1) (pos times_most) (denominator claim) && inside (pos 0) (pos pairs_most) (pairs claim) && w)
      (kept-agree states _ _ (flags-agree k) (claimed_row claim))
      (pairs-agree states _ _ (flags-agree (length claims)) claim (nat_abs (pairs claim)))
      ∙ ap (formed_by states (claimed_in claims (length claims)) (claimed_in claims k)) is
