-- What the functions on one claim ask of it, and how a value of each row is lent. That a well-formed claim gives it is proved (`proofs/FormLaws.antt`).
use Rattle.std.specs.Prelude.{◌≡◌, true, List, ℕ, ◌+◌, ◌*◌, ◌^◌, ◌<◌, ℤ, pos, nat_abs, length}
use Rattle.numbers.specs.Ints.{inside, AllWithin}
use Rattle.types.specs.Ranges.{at_ℤ, exists}
use Rattle.claimrules.specs.Claims.{times_most, pairs_most, claimed_row, denominator, pairs, cited_row, multiplier}

-- rows that exist, and numbers in their ranges
pub record ClaimInRange (rows : ℕ) (claim : List ℤ) : Type 0 where
  pub row_in : exists rows (claimed_row claim) ≡ true
  pub times_in : inside (pos 1) (pos times_most) (denominator claim) ≡ true
  pub pairs_in_lem : inside (pos 0) (pos pairs_most) (pairs claim) ≡ true
  pub cited_in : (j : ℕ) → j < nat_abs (pairs claim) → exists rows (cited_row claim j) ≡ true
  pub multiplied_in : (j : ℕ) → j < nat_abs (pairs claim) → inside (pos 1) (pos times_most) (multiplier claim j) ≡ true

-- the most that a value of a row can be: RAMs stay under 2^48 grains, and factors are smaller
abbrev pub value_most : ℕ
value_most = 2 ^ 48

-- a value of each row, lent among `stride` of each
pub record Lent (rows stride at : ℕ) (xs : List ℤ) : Type 0 where
  pub long : length xs ≡ rows * stride
  pub within : at < stride
  pub each : AllWithin value_most xs

abbrev pub value_of : (xs : List ℤ) → (stride at : ℕ) → (i : ℕ) → ℤ
value_of xs stride at i = at_ℤ xs (i * stride + at)
